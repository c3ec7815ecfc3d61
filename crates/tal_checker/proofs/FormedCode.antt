-- What a formed image has: code that lies in its functions, blocks and entries.
use Rattle.std.specs.Prelude.{if◌then◌else◌, ◌==◌, nat_le, ◌&&◌, not, is_some, slice_get}
use Rattle.std.specs.Option.{option_map_or}
use Rattle.std.proofs.Common.{◌≡◌, ℕ, zero, suc, ◌+◌, ◌-◌, ◌<◌, ◌^◌, Bool, true, false, Option, Some, None, List, [], ◌∷◌, ◌++◌, length, refl, sym, ap, subst, ◌∙◌, arith}
use Rattle.std.proofs.lemmas.Bool.Decides.{nat_tests}
use Rattle.std.proofs.lemmas.List.{length-append}
use Rattle.std.proofs.lemmas.Option.{same_Some}
use Rattle.std.proofs.lemmas.List.Concat.{flat_map-append}
use Rattle.ia32_code.specs.Decoding.{FrontLaw}
use Rattle.tal_types.specs.Contexts.{ContextView, plain}
use Rattle.tal_types.specs.declared.signatures.Sig.{Sig}
use Rattle.tal_flow.specs.Strongest.{PlacedInst, placed_at}
use Rattle.tal_image.specs.declared.parts.BlockPart.{BlockPart}
use Rattle.tal_image.specs.declared.parts.FunctionPart.{FunctionPart}
use Rattle.object_layout.specs.Areas.{code_start}
use Rattle.tal_image.specs.declared.parts.Tables.{Tables}
use Rattle.tal_image.specs.Conditions.{Spelled, begins_at, function_begins, block_fits, entry_fits, starts_stack}
use Rattle.tal_image.specs.Fields.{all_instructions, code_bytes, after_function, after_block}
use Rattle.tal_image.specs.Formed.{EachAfter, Each, IsFunction, IsEntry, IsBlockPart, IsBody, AreBodies, Formed, tables}
use Rattle.tal_image.specs.Image.{ImageParts}
use Rattle.tal_image.specs.Shown.{spans, begun_by, block_in}
use Rattle.tal_checker.specs.Instructions.{instructions}
use Rattle.tal_checker.specs.Laws.{CodeLaws}
use Rattle.tal_checker.proofs.SpelledCode.{AreTexts, SpellingLength, spelled-text, placed_spelled, placed-code, first_there, begun_there, begun-inst, there-after}
use Rattle.tal_checker.proofs.FunctionSpans.{AreFunctions, total, numbered, not_begun}

-- the functions of a formed image
are_functions : (t : Tables) (left : ℕ) (fs : List FunctionPart) → EachAfter after_function (λ later room f. IsFunction t later room f) left fs → AreFunctions t.sigs fs
are_functions t left [] h = tt
are_functions t left (f ∷ fs) h =
    let k = h.0 in
    let a = k.condition_13 in
    let b = k.condition_14 in
    (grind (arith, nat_tests), grind (arith, nat_tests), are_functions t (left - f.length) fs h.1)

-- texts after others
append-texts : (a b : List Spelled) → AreTexts a → AreTexts b → AreTexts (a ++ b)
append-texts [] b h k = k
append-texts (s ∷ a) b h k = (h.0, append-texts a b h.1 k)

-- the bytes of instructions after others
append-length : (a b : List Spelled) → length (code_bytes (a ++ b)) ≡ length (code_bytes a) + length (code_bytes b)
append-length a b = ap length (flat_map-append (λ (s : Spelled). s.text) a b) ∙ length-append (code_bytes a) (code_bytes b)

module _ (front : FrontLaw) (long : SpellingLength) where
  -- the instructions of a function
  body-texts : (body : List Spelled) (room : ℕ) → IsBody room body → AreTexts body × (length (code_bytes body) ≡ room)
  body-texts [] room h = (tt, sym h)
  body-texts (s ∷ more) room h =
      let t = body-texts more (room - length s.text) h.3 in
      let l = length-append s.text (code_bytes more) in
      let e = t.1 in
      let fits = h.2 in
      ((spelled-text front long s h.1, t.0), omega arith)

  -- those of all functions
  bodies-texts : (fs : List FunctionPart) (bodies : List (List Spelled)) → AreBodies fs bodies → AreTexts (all_instructions bodies) × (length (code_bytes (all_instructions bodies)) ≡ total fs)
  bodies-texts [] [] h = (tt, refl)
  bodies-texts [] (body ∷ bodies) h = absurd h
  bodies-texts (f ∷ fs) [] h = absurd h
  bodies-texts (f ∷ fs) (body ∷ bodies) h =
      let a = body-texts body f.length h.0 in
      let b = bodies-texts fs bodies h.1 in
      let l = append-length body (all_instructions bodies) in
      let m = a.1 in
      let n = b.1 in
      (append-texts body (all_instructions bodies) a.0 b.0, omega arith)

  -- where a function begins an instruction begins
  function-there : (fs : List FunctionPart) (bodies : List (List Spelled)) (a sigs pc g : ℕ) → AreFunctions sigs fs → AreBodies fs bodies
      → begun_by pc (spans a fs) ≡ Some g → (x : PlacedInst) × (placed_at (placed_spelled a (all_instructions bodies)) pc ≡ Some x)
  unfolding spans begun_by
  function-there [] bodies a sigs pc g h b e = absurd cc
  function-there (f ∷ fs) [] a sigs pc g h b e = absurd b
  function-there (f ∷ fs) (body ∷ bodies) a sigs pc g h b e = go (a == pc) refl e (λ k. function-there fs bodies (a + f.length) sigs pc g h.2 b.1 k)
    where
      go : (t : Bool) → (a == pc) ≡ t → (if t then Some f.sig else begun_by pc (spans (a + f.length) fs)) ≡ Some g
          → (begun_by pc (spans (a + f.length) fs) ≡ Some g → (x : PlacedInst) × (placed_at (placed_spelled (a + f.length) (all_instructions bodies)) pc ≡ Some x))
          → (x : PlacedInst) × (placed_at (placed_spelled a (body ++ all_instructions bodies)) pc ≡ Some x)
      go true p e later =
          let q : a ≡ pc = grind (arith, nat_tests) in
          let m = (body-texts body f.length b.0).1 in
          let l = append-length body (all_instructions bodies) in
          let some = h.0 in
          let t = first_there (body ++ all_instructions bodies) a (omega arith) in
          (t.0, subst (λ (n : ℕ). placed_at (placed_spelled a (body ++ all_instructions bodies)) n ≡ Some t.0) q t.1)
      go false p e later =
          let t = later e in
          let m = body-texts body f.length b.0 in
          (t.0, there-after body (all_instructions bodies) a pc t.0 m.0 (subst (λ (n : ℕ). placed_at (placed_spelled (a + n) (all_instructions bodies)) pc ≡ Some t.0) (sym m.1) t.1))

-- a block's place in the code
record IsPlace (functions : List FunctionPart) (code : List Spelled) (pc : ℕ) : Type 0 where
  offset : ℕ
  address : code_start + offset ≡ pc
  instruction : is_some (begins_at offset code) ≡ true
  no_function : function_begins offset functions ≡ false

-- a block stands where an instruction begins and no function does
block-place : (t : Tables) (functions : List FunctionPart) (code : List Spelled) (bs : List BlockPart) (least pc : ℕ) (c : ContextView)
    → EachAfter after_block (λ later least b. IsBlockPart t functions code least b) least bs → block_in pc bs ≡ Some c → IsPlace functions code pc
unfolding block_in block_fits
block-place t functions code [] least pc c h e = absurd cc
block-place t functions code (b ∷ bs) least pc c h e = go ((code_start + b.offset) == pc) refl e (λ k. block-place t functions code bs (b.offset + 1) pc c h.1 k)
  where
    at : (s u : Bool) → ((nat_le least b.offset && s) && not u) ≡ true → (s ≡ true) × (u ≡ false)
    at s u k = (grind arith, grind arith)

    go : (s : Bool) → ((code_start + b.offset) == pc) ≡ s → (if s then Some (plain b.types b.slots) else block_in pc bs) ≡ Some c
        → (block_in pc bs ≡ Some c → IsPlace functions code pc) → IsPlace functions code pc
    go true p e later =
        let k = h.0 in
        let q = at (is_some (begins_at b.offset code)) (function_begins b.offset functions) k.condition_24 in
        record { offset = b.offset; address = grind (arith, nat_tests); instruction = q.0; no_function = q.1 }
    go false p e later = later e

-- each row of a list is as it must be
each-get : {A : Type 0} (Is : A → Type 0) (xs : List A) (i : ℕ) (x : A) → Each Is xs → slice_get xs i ≡ Some x → Is x
each-get Is [] i x h e = absurd cc
each-get Is (y ∷ xs) zero x h e = subst Is (same_Some y x e) h.0
each-get Is (y ∷ xs) (suc i) x h e = each-get Is xs i x h.1 e

-- where a stack begins
pub record IsStart (image : ImageParts) (f : ℕ) : Type 0 where
  pub row : FunctionPart
  pub sig : Sig
  pub function : slice_get image.functions f ≡ Some row
  pub signature : slice_get image.sigs row.sig ≡ Some sig
  pub starts : starts_stack sig ≡ true

-- an entry is the beginning of a stack
entry-start : (image : ImageParts) (f : ℕ) → entry_fits image.sigs image.functions f ≡ true → IsStart image f
unfolding entry_fits
entry-start image f h = go (slice_get image.functions f) refl h
  where
    sig_of : (row : FunctionPart) → slice_get image.functions f ≡ Some row → (o : Option Sig) → slice_get image.sigs row.sig ≡ o
        → option_map_or starts_stack o false ≡ true → IsStart image f
    sig_of row e None p h = absurd cc
    sig_of row e (Some sig) p h = record { row = row; sig = sig; function = e; signature = p; starts = h }

    go : (o : Option FunctionPart) → slice_get image.functions f ≡ o
        → option_map_or (λ (row : FunctionPart). option_map_or starts_stack (slice_get image.sigs row.sig) false) o false ≡ true → IsStart image f
    go None p h = absurd cc
    go (Some row) p h = sig_of row p (slice_get image.sigs row.sig) refl h

-- the code of a formed image, with its functions, blocks and entries
pub record HasCode (image : ImageParts) : Type 0 where
  pub code : List Spelled
  pub texts : AreTexts code
  pub bytes : image.code ≡ code_bytes code
  pub instructions_are : instructions image.code ≡ placed_spelled code_start code
  pub functions : AreFunctions (length image.sigs) image.functions
  pub whole : length image.code ≡ total image.functions
  pub room : code_start + length image.code < 2 ^ 32
  pub begins : (pc g : ℕ) → begun_by pc (spans code_start image.functions) ≡ Some g → (x : PlacedInst) × (placed_at (placed_spelled code_start code) pc ≡ Some x)
  pub blocks : (pc : ℕ) (c : ContextView) → block_in pc image.blocks ≡ Some c
      → ((x : PlacedInst) × (placed_at (placed_spelled code_start code) pc ≡ Some x)) × (begun_by pc (spans code_start image.functions) ≡ None)
  pub entries : (s f : ℕ) → slice_get image.entries s ≡ Some f → IsStart image f
  pub count : length image.entries ≡ image.stacks

-- a formed image has code of which all this holds
pub has_code : FrontLaw → SpellingLength → (image : ImageParts) → Formed image → HasCode image
unfolding instructions
has_code front long image f =
    let code = all_instructions f.bodies in
    let t = bodies-texts front long image.functions f.bodies f.condition_23 in
    let functions = are_functions (tables image) (length image.code) image.functions f.functions in
    let limit = f.condition_9 in
    record {
      code = code;
      texts = t.0;
      bytes = f.code;
      instructions_are = ap instructions f.code ∙ placed-code code code_start t.0;
      functions = functions;
      whole = ap length f.code ∙ t.1;
      room = grind (arith, nat_tests);
      begins = λ pc g e. function-there front long image.functions f.bodies code_start (length image.sigs) pc g functions f.condition_23 e;
      blocks = λ pc c e.
          let p = block-place (tables image) image.functions code image.blocks 0 pc c f.blocks e in
          let b = begun_there code code_start p.offset t.0 p.instruction in (
            (b.0, ap (λ (n : ℕ). placed_at (placed_spelled code_start code) n) (sym p.address) ∙ b.1),
            ap (λ (n : ℕ). begun_by n (spans code_start image.functions)) (sym p.address) ∙ not_begun image.functions code_start (length image.sigs) p.offset functions p.no_function,
          );
      entries = λ s e h. entry-start image e (each-get (IsEntry image.sigs image.functions) image.entries s e f.entries h).condition_15;
      count = f.stacks;
    }

-- what a formed image tells of its code
pub code_laws : FrontLaw → SpellingLength → (image : ImageParts) (formed : Formed image) → CodeLaws image formed
unfolding instructions
code_laws front long image formed = record {
  functions = λ n row e. numbered image.functions code_start (length image.sigs) n row has.functions e;
  blocks = λ pc c e. let x = (has.blocks pc c e).0 in rw (has.instructions_are, x.1) refl;
  begun = λ offset i x e here. begun-inst code code_start offset x i texts e (rw (← placed-code code code_start texts, ← formed.code) here);
}
  where
    has : HasCode image
    has = has_code front long image formed

    code : List Spelled
    code = all_instructions formed.bodies

    texts : AreTexts code
    texts = (bodies-texts front long image.functions formed.bodies formed.condition_23).0
