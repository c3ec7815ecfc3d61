-- The instructions of a function of a unit.
use Rattle.std.specs.Prelude.{◌==◌, nat_lt, nat_le, ◌&&◌, ◌||◌, filter}
use Rattle.std.proofs.Common.{◌≡◌, ℕ, zero, suc, ◌+◌, ◌-◌, ◌<◌, ◌≤◌, Bool, true, false, cond, List, [], ◌∷◌, ◌++◌, length, take, drop, Some, slice_get, ◌⊎◌, inl, inr, refl, sym, ap, ◌∙◌, subst, append_assoc, arith}
use Rattle.std.proofs.lemmas.Bool.{cases_Bool, false≢true, true≢false, and_parts, eqb-true, leb-true}
use Rattle.std.proofs.lemmas.List.{drop_at, take_at}
use Rattle.std.proofs.lemmas.List.Concat.{flat_map-append}
use Rattle.ia32_code.specs.Spells.{Spells}
use Rattle.file_fields.specs.Parts.{EachAfter}
use Rattle.tal_image.specs.declared.parts.FunctionPart.{FunctionPart}
use Rattle.tal_image.specs.Conditions.{Spelled, part_length_fits, function_begins}
use Rattle.tal_image.specs.Fields.{all_instructions, code_bytes}
use Rattle.tal_image.specs.Formed.{IsBody, AreBodies}
use Rattle.unit_files.specs.declared.parts.UnitFun.{UnitFun}
use Rattle.unit_files.specs.Unit.{function_part, own_functions}
use Rattle.unit_files.specs.Conditions.{words_in_text, words_read}
use Rattle.image_linker.proofs.Formed.Members.{In}
use Rattle.image_linker.proofs.Formed.Rows.{each_at}
use Rattle.image_linker.proofs.Formed.Tables.{body_start}
use Rattle.image_linker.proofs.Formed.Fills.{CodeLaws, words_spelled}
use Rattle.image_linker.proofs.Formed.Instructions.{HaveBytes, size, size_cons, size_both, spelled_at, behind, drop_spelled}
use Rattle.image_linker.proofs.Formed.Refilled.{AllSpelled}

-- a function's instructions fill it
pub body_size : (room : ℕ) (code : List Spelled) → IsBody room code → size code ≡ room
body_size room [] h = sym h
body_size room (s ∷ code) h = let later = body_size (room - length s.text) code h.3 in size_cons s code ∙ omega (arith, later, h.2)

-- they are spelled by their bytes
pub body_spelled : (room : ℕ) (code : List Spelled) → IsBody room code → AllSpelled code
body_spelled room [] h = tt
body_spelled room (s ∷ code) h = (h.1, body_spelled (room - length s.text) code h.3)

-- so are those of two lists
pub spelled_both : (xs ys : List Spelled) → AllSpelled xs → AllSpelled ys → AllSpelled (xs ++ ys)
spelled_both [] ys a b = b
spelled_both (x ∷ xs) ys a b = (a.0, spelled_both xs ys a.1 b)

-- a spelled instruction has a byte
pub have_bytes : CodeLaws → (code : List Spelled) → AllSpelled code → HaveBytes code
have_bytes laws [] h = tt
have_bytes laws (s ∷ code) h = ((laws.long s.text s.means h.0).0, have_bytes laws code h.1)

-- code of functions in which the instructions of one begin at an offset
pub record OwnBody (code : List Spelled) (functions : List FunctionPart) (start room : ℕ) : Type 0 where
  pub pre : List Spelled
  pub mine : List Spelled
  pub post : List Spelled
  pub parts : code ≡ pre ++ (mine ++ post)
  pub before : size pre ≡ start
  pub pre_spelled : AllSpelled pre
  pub body : IsBody room mine
  pub first : function_begins start functions ≡ true

-- each function that is not extern has its instructions in the unit's code
pub own_body : (fs : List UnitFun) (bodies : List (List Spelled)) → AreBodies (own_functions fs) bodies → ((f : UnitFun) → In f fs → f.ext ≡ true → f.length ≡ 0)
    → ((f : UnitFun) → In f fs → f.ext ≡ false → 0 < f.length) → (i : ℕ) (f : UnitFun) → slice_get fs i ≡ Some f → f.ext ≡ false → OwnBody (all_instructions bodies) (own_functions fs) (body_start fs i) f.length
unfolding own_functions body_start function_begins
own_body [] bodies are short long i f e own = absurd cc
own_body (g ∷ fs) bodies are short long i f e own = by (cases_Bool g.ext) bodies i are e (λ bs k a l. own_body fs bs a (λ x y. short x (inr y)) (λ x y. long x (inr y)) k f l own)
  where
    at_own : g.ext ≡ false → (bs : List (List Spelled)) (k : ℕ) → AreBodies (function_part g ∷ own_functions fs) bs → slice_get (g ∷ fs) k ≡ Some f
        → ((cs : List (List Spelled)) (j : ℕ) → AreBodies (own_functions fs) cs → slice_get fs j ≡ Some f → OwnBody (all_instructions cs) (own_functions fs) (body_start fs j) f.length) → OwnBody (all_instructions bs) (function_part g ∷ own_functions fs) (body_start (g ∷ fs) k) f.length
    at_own x [] k a l later = absurd a
    at_own x (b ∷ bs) zero a l later =
        let same : g ≡ f = cc in
        record { pre = []; mine = b; post = all_instructions bs; parts = refl; before = refl; pre_spelled = tt; body = subst (λ (y : UnitFun). IsBody y.length b) same a.0; first = refl }
    at_own x (b ∷ bs) (suc k) a l later =
        let r = later bs k a.1 l in
        let some : 0 < g.length = long g (inl refl) x in
        let at : g.length + body_start fs k - g.length ≡ body_start fs k = omega arith in
        record {
          pre = b ++ r.pre;
          mine = r.mine;
          post = r.post;
          parts = ap (λ xs. b ++ xs) r.parts ∙ sym (append_assoc b r.pre (r.mine ++ r.post));
          before = size_both b r.pre ∙ ap (λ n. n + size r.pre) (body_size g.length b a.0) ∙ ap (λ n. g.length + n) r.before;
          pre_spelled = spelled_both b r.pre (body_spelled g.length b a.0) r.pre_spelled;
          body = r.body;
          first = behind (g.length + body_start fs k) g.length true false (function_begins (g.length + body_start fs k - g.length) (own_functions fs)) (omega (arith, some)) (omega arith)
              ∙ ap (λ n. function_begins n (own_functions fs)) at ∙ r.first;
        }

    at_ext : (bs : List (List Spelled)) (k : ℕ) → g.ext ≡ true → AreBodies (own_functions fs) bs → slice_get (g ∷ fs) k ≡ Some f
        → ((cs : List (List Spelled)) (j : ℕ) → AreBodies (own_functions fs) cs → slice_get fs j ≡ Some f → OwnBody (all_instructions cs) (own_functions fs) (body_start fs j) f.length) → OwnBody (all_instructions bs) (own_functions fs) (body_start (g ∷ fs) k) f.length
    at_ext bs zero x a l later = let same : g ≡ f = cc in absurd (true≢false (sym x ∙ ap (λ (y : UnitFun). y.ext) same ∙ own))
    at_ext bs (suc k) x a l later =
        let n = short g (inl refl) x in
        let start : body_start fs k ≡ g.length + body_start fs k = omega (arith, n) in
        subst (λ m. OwnBody (all_instructions bs) (own_functions fs) m f.length) start (later bs k a l)

    by : (g.ext ≡ true) ⊎ (g.ext ≡ false) → (bs : List (List Spelled)) (k : ℕ) → AreBodies (elim g.ext [ true ↦ own_functions fs | false ↦ function_part g ∷ own_functions fs ]) bs → slice_get (g ∷ fs) k ≡ Some f
        → ((cs : List (List Spelled)) (j : ℕ) → AreBodies (own_functions fs) cs → slice_get fs j ≡ Some f → OwnBody (all_instructions cs) (own_functions fs) (body_start fs j) f.length) → OwnBody (all_instructions bs) (elim g.ext [ true ↦ own_functions fs | false ↦ function_part g ∷ own_functions fs ]) (body_start (g ∷ fs) k) f.length
    by (inl x) bs k a l later = subst (λ (v : Bool). OwnBody (all_instructions bs) (elim v [ true ↦ own_functions fs | false ↦ function_part g ∷ own_functions fs ]) (body_start (g ∷ fs) k) f.length) (sym x) (at_ext bs k x (subst (λ (v : Bool). AreBodies (elim v [ true ↦ own_functions fs | false ↦ function_part g ∷ own_functions fs ]) bs) x a) l later)
    by (inr x) bs k a l later = subst (λ (v : Bool). OwnBody (all_instructions bs) (elim v [ true ↦ own_functions fs | false ↦ function_part g ∷ own_functions fs ]) (body_start (g ∷ fs) k) f.length) (sym x) (at_own x bs k (subst (λ (v : Bool). AreBodies (elim v [ true ↦ own_functions fs | false ↦ function_part g ∷ own_functions fs ]) bs) x a) l later)

-- the bytes of a function
pub own_bytes : (code : List Spelled) (gs : List FunctionPart) (start room : ℕ) (b : OwnBody code gs start room) → take room (drop start (code_bytes code)) ≡ code_bytes b.mine
own_bytes code gs start room b =
    let all = ap code_bytes b.parts ∙ flat_map-append (λ (s : Spelled). s.text) b.pre (b.mine ++ b.post) in
    let after = ap (drop start) all ∙ drop_at (code_bytes b.pre) (code_bytes (b.mine ++ b.post)) start b.before in
    ap (take room) (after ∙ flat_map-append (λ (s : Spelled). s.text) b.mine b.post) ∙ take_at (code_bytes b.mine) (code_bytes b.post) room (body_size room b.mine b.body)

-- the whole words of an instruction, by the bytes from it on
pub words_from : CodeLaws → (code : List Spelled) (o : ℕ) (s : Spelled) → AllSpelled code → spelled_at o code ≡ Some s → words_in_text (drop o (code_bytes code)) ≡ words_in_text s.text
words_from laws code o s all e =
    let d = drop_spelled code o s e in
    let sp : Spells s.text s.means = each_at (λ (x : Spelled). Spells x.text x.means) code all s d.2 in
    ap words_in_text (d.1 ∙ ap (λ b. b ++ d.0) sp.text_is) ∙ ap words_read (laws.read sp.spelling d.0 sp.fits) ∙ sym (words_spelled laws s.text s.means sp)

-- an extern function has no bytes, any other has some
pub extern_short : (later left n : ℕ) (e : Bool) → part_length_fits e later left n ≡ true → e ≡ true → n ≡ 0
unfolding part_length_fits
extern_short later left n true h is = eqb-true n 0 (and_parts (n == 0) (nat_lt 0 later || n == left) h).0
extern_short later left n false h is = absurd (false≢true is)

-- a function that is not extern has a byte
pub own_long : (later left n : ℕ) (e : Bool) → part_length_fits e later left n ≡ true → e ≡ false → 0 < n
unfolding part_length_fits
own_long later left n true h is = absurd (true≢false is)
own_long later left n false h is = let one = leb-true 1 n (and_parts (nat_le 1 n) (nat_le n left) (and_parts (nat_le 1 n && nat_le n left) (nat_lt 0 later || n == left) h).0).0 in omega (arith, one)

-- rows with rising offsets, those of them that pass a test
pub rising_kept : {A : Type 0} (offset : A → ℕ) (p : A → Bool) (Is : A → Type 0) (xs : List A) (least low : ℕ) → low ≤ least
    → EachAfter (λ (n : ℕ) (x : A). offset x + 1) (λ later n x. (n ≤ offset x) × Is x) least xs → EachAfter (λ (n : ℕ) (x : A). offset x + 1) (λ later n x. (n ≤ offset x) × Is x × (p x ≡ true)) low (filter p xs)
rising_kept offset p Is [] least low le h = tt
rising_kept {A} offset p Is (x ∷ xs) least low le h = by (cases_Bool (p x))
    (rising_kept offset p Is xs (offset x + 1) (offset x + 1) (omega arith) h.1) (rising_kept offset p Is xs (offset x + 1) low (omega (arith, le, h.0.0)) h.1)
  where
    by : (p x ≡ true) ⊎ (p x ≡ false) → EachAfter (λ (n : ℕ) (y : A). offset y + 1) (λ later n y. (n ≤ offset y) × Is y × (p y ≡ true)) (offset x + 1) (filter p xs) → EachAfter (λ (n : ℕ) (y : A). offset y + 1) (λ later n y. (n ≤ offset y) × Is y × (p y ≡ true)) low (filter p xs)
        → EachAfter (λ (n : ℕ) (y : A). offset y + 1) (λ later n y. (n ≤ offset y) × Is y × (p y ≡ true)) low (cond (p x) (x ∷ filter p xs) (filter p xs))
    by (inl t) kept gone = rw t ((omega (arith, le, h.0.0), h.0.1, t), kept)
    by (inr t) kept gone = rw t gone
