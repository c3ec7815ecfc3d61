-- What the operands of an instruction name, and in which words.
use Rattle.std.proofs.Common.{◌≡◌, ℕ, ℤ, pos, negsuc, ◌+◌, ◌<◌, ◌≤◌, ◌^◌, Bool, true, false, not, ◌&&◌, ◌||◌, List, [], ◌∷◌, length, Option, Some, None, is_some, if◌then◌else◌, refl, subst, ◌⊎◌, inl, inr, arith}
use Rattle.std.specs.Prelude.{◌==◌, nat_lt, int_lt, IfSome, FitsSigned}
use Rattle.std.specs.Option.{option_and_then, option_map}
use Rattle.std.specs.Int.{w32, w64, cast_unsigned}
use Rattle.std.specs.Str.{bytes_eq}
use Rattle.std.proofs.Math.Nat.{mod-lt, mod-eq_of_lt}
use Rattle.std.proofs.lemmas.List.Quantifiers.{position-Some}
use Rattle.ia32_code.specs.declared.instruction.Mem.{Mem}
use Rattle.ia32_code.specs.declared.instruction.Reg.{Reg}
use Rattle.code_words.specs.declared.words.OperandWord.{OperandWord}
use Rattle.code_words.specs.declared.words.OperandWord.TheVariants as say
use Rattle.tal_types.specs.declared.types.Ty.{Ty}
use Rattle.tal_types.specs.declared.types.Ty.TheVariants as ty
use Rattle.tal_image.specs.Formed.{IsWord}
use Rattle.tal_syntax.specs.declared.form.Arg.{Arg}
use Rattle.tal_syntax.specs.declared.form.Arg.TheVariants as arg
use Rattle.tal_syntax.specs.declared.form.Term.{Term}
use Rattle.tal_syntax.specs.declared.form.Term.TheVariants as term
use Rattle.tal_syntax.specs.declared.form.TypeText.{TypeText}
use Rattle.tal_syntax.specs.declared.form.TypeText.TheVariants as type
use Rattle.tal_names.specs.Declarations.{Names}
use Rattle.tal_names.specs.NameSets.{number_of_name}
use Rattle.tal_names.specs.LookUps.{type_of, field_byte, method_byte, display_byte}
use Rattle.tal_operands.specs.declared.addresses.Address.{Address}
use Rattle.tal_operands.specs.declared.operands.Hole.{Hole}
use Rattle.tal_operands.specs.declared.operands.Sense.{Sense}
use Rattle.tal_operands.specs.declared.operands.Operand.{Operand}
use Rattle.tal_operands.specs.Addresses.{word, no_terms, with_unscaled, factor_scale, with_scaled, with_bytes, with_static, with_term, with_terms, terms_address}
use Rattle.tal_operands.specs.Operands.{wide, row_operand, null_sense, null_operand, memory_operand, is_nucleus_entry, nucleus_operand, called_operand, arg_operand}
use Rattle.unit_files.specs.Conditions.{marked_rows, is_null_tag, fixup_kind_fits, fixed_rows, fixup_index_fits}
use Rattle.tal_code.specs.Formed.{tables_named, NumbersFit}
use Rattle.tal_code.proofs.Spellings.{some_is_one}
use Rattle.tal_code.proofs.Ranges.{WordInRange}

-- ---- what is named

-- a hole is for something that is declared
pub record HoleNamed (m : Names) (h : Hole) : Type 0 where
  pub kind_word : IsWord h.kind
  pub kind : fixup_kind_fits h.kind ≡ true
  pub index_word : IsWord h.index
  pub index : fixup_index_fits (tables_named m) (length m.functions) (length m.arrays) (length m.statics) h.kind h.index ≡ true

-- and so is what an immediate number means
pub record SenseNamed (m : Names) (s : Sense) : Type 0 where
  pub tag_word : IsWord s.tag
  pub index_word : IsWord s.index
  pub index : nat_lt s.index (marked_rows (tables_named m) (length m.functions) (length m.arrays) s.tag) ≡ true

-- A name's number is below the number of names.
pub below : (names : List (List ℕ)) (n : List ℕ) (i : ℕ) → number_of_name names n ≡ Some i → i < length names
below names n i is = (position-Some (bytes_eq n) names i [] is).0

-- The test of it.
pub is_below : (i n : ℕ) → i < n → nat_lt i n ≡ true
is_below i n lt = grind (arith, lt)

-- A number below a size that fits is a word.
pub small : (i n : ℕ) → i < n → n ≤ 2 ^ 32 → IsWord i
small i n lt le = omega (arith, lt, le)

-- ---- addresses

-- the numbers of an address fit
abbrev pub AddressFits : Address → Type 0
AddressFits a = (a.scale < 256) × (a.disp < 2 ^ 32)

-- The scale of a factor is 3 at most.
scale_fits : (k : ℕ) → factor_scale k < 256
unfolding factor_scale
scale_fits k = by_factor (k == 2) (k == 4) (k == 8)
  where
    by_factor : (a b c : Bool) → (if a then 1 else if b then 2 else if c then 3 else 0) < 256
    by_factor true b c = omega arith
    by_factor false true c = omega arith
    by_factor false false true = omega arith
    by_factor false false false = omega arith

register_fits : (a : Address) (r : Reg) → AddressFits a → AddressFits (with_unscaled a r)
unfolding with_unscaled
register_fits a r fits = by_room (not (is_some a.base)) (not (is_some a.index))
  where
    by_room : (b c : Bool) → AddressFits (if b then record a { base = Some r } else if c then record a { index = Some r } else record a { crowded = true })
    by_room true c = fits
    by_room false true = fits
    by_room false false = fits

scaled_fits : (a : Address) (r : Reg) (k : ℕ) → AddressFits a → AddressFits (with_scaled a r k)
unfolding with_scaled
scaled_fits a r k fits = by_room (not (is_some a.index))
  where
    by_room : (b : Bool) → AddressFits (if b then record a { index = Some r; scale = factor_scale k } else record a { crowded = true })
    by_room true = (scale_fits k, fits.1)
    by_room false = fits

bytes_fit : (a : Address) (o : Option ℕ) → AddressFits a → AddressFits (with_bytes a o)
unfolding with_bytes
bytes_fit a None fits = fits
bytes_fit a (Some n) fits = (fits.0, mod-lt (a.disp + n) (omega arith))

static_fits : (a : Address) (o : Option ℕ) → AddressFits a → AddressFits (with_static a o)
unfolding with_static
static_fits a None fits = fits
static_fits a (Some s) fits = fits

term_fits : (m : Names) (a : Address) (t : Term) → AddressFits a → AddressFits (with_term m a t)
unfolding with_term
term_fits m a (term.Register r) fits = register_fits a r fits
term_fits m a (term.Scaled r k) fits = scaled_fits a r k fits
term_fits m a (term.Number n) fits = bytes_fit a (Some (word n)) fits
term_fits m a (term.FieldByte c f) fits = bytes_fit a (option_and_then (λ k. field_byte m k f) (number_of_name m.classes c)) fits
term_fits m a (term.MethodByte c x) fits = bytes_fit a (option_and_then (λ k. method_byte m k x) (number_of_name m.classes c)) fits
term_fits m a (term.DisplayByte c) fits = bytes_fit a (option_map (display_byte m) (number_of_name m.classes c)) fits
term_fits m a (term.StaticAt s) fits = static_fits a (number_of_name m.statics s) fits

-- The numbers of an address are words.
pub terms_fit : (m : Names) (a : Address) (ts : List Term) → AddressFits a → AddressFits (with_terms m a ts)
unfolding with_terms
terms_fit m a [] fits = fits
terms_fit m a (t ∷ ts) fits = terms_fit m (with_term m a t) ts (term_fits m a t fits)

-- Where all names of an address are known, its static is one that is declared.
abbrev pub StaticKnown : Names → Address → Type 0
StaticKnown m a = a.unknown ≡ false → IfSome a.place (λ s. s < length m.statics)

register_known : (m : Names) (a : Address) (r : Reg) → StaticKnown m a → StaticKnown m (with_unscaled a r)
unfolding with_unscaled
register_known m a r known = by_room (not (is_some a.base)) (not (is_some a.index))
  where
    by_room : (b c : Bool) → StaticKnown m (if b then record a { base = Some r } else if c then record a { index = Some r } else record a { crowded = true })
    by_room true c = known
    by_room false true = known
    by_room false false = known

scaled_known : (m : Names) (a : Address) (r : Reg) (k : ℕ) → StaticKnown m a → StaticKnown m (with_scaled a r k)
unfolding with_scaled
scaled_known m a r k known = by_room (not (is_some a.index))
  where
    by_room : (b : Bool) → StaticKnown m (if b then record a { index = Some r; scale = factor_scale k } else record a { crowded = true })
    by_room true = known
    by_room false = known

bytes_known : (m : Names) (a : Address) (o : Option ℕ) → StaticKnown m a → StaticKnown m (with_bytes a o)
unfolding with_bytes
bytes_known m a None known = λ e. cc
bytes_known m a (Some n) known = known

static_known : (m : Names) (a : Address) (o : Option ℕ) → IfSome o (λ s. s < length m.statics) → StaticKnown m a → StaticKnown m (with_static a o)
unfolding with_static
static_known m a None less known = λ e. cc
static_known m a (Some s) less known = λ e. less

number_less : (names : List (List ℕ)) (n : List ℕ) → IfSome (number_of_name names n) (λ s. s < length names)
number_less names n = by_number (number_of_name names n) refl
  where
    by_number : (o : Option ℕ) → number_of_name names n ≡ o → IfSome o (λ s. s < length names)
    by_number None e = tt
    by_number (Some i) e = below names n i e

term_known : (m : Names) (a : Address) (t : Term) → StaticKnown m a → StaticKnown m (with_term m a t)
unfolding with_term
term_known m a (term.Register r) known = register_known m a r known
term_known m a (term.Scaled r k) known = scaled_known m a r k known
term_known m a (term.Number n) known = bytes_known m a (Some (word n)) known
term_known m a (term.FieldByte c f) known = bytes_known m a (option_and_then (λ k. field_byte m k f) (number_of_name m.classes c)) known
term_known m a (term.MethodByte c x) known = bytes_known m a (option_and_then (λ k. method_byte m k x) (number_of_name m.classes c)) known
term_known m a (term.DisplayByte c) known = bytes_known m a (option_map (display_byte m) (number_of_name m.classes c)) known
term_known m a (term.StaticAt s) known = static_known m a (number_of_name m.statics s) (number_less m.statics s) known

pub terms_known : (m : Names) (a : Address) (ts : List Term) → StaticKnown m a → StaticKnown m (with_terms m a ts)
unfolding with_terms
terms_known m a [] known = known
terms_known m a (t ∷ ts) known = terms_known m (with_term m a t) ts (term_known m a t known)

-- ---- operands

-- the hole of an address, which has a word for it
abbrev pub NearNamed : Names → OperandWord → Hole → Type 0
NearNamed m w h = HoleNamed m h × ((x : Mem) × (w ≡ say.Memory x) × (x.disp ≡ wide))

-- a mark, of null or beside a hole
abbrev pub Marked : Names → Option Hole → Sense → Type 0
Marked m far s = SenseNamed m s × ((is_null_tag s.tag || is_some far) ≡ true)

-- The shapes of operands: one without a mark, maybe in memory at a static; null and a row's address, whose number is 0 or a
-- hole; a place in the code.
pub data Shape (m : Names) (o : Operand) : Type 0 where
  Common : IfSome o.near (NearNamed m o.word) → o.far ≡ None → o.sense ≡ None → Shape m o
  Special : (n : ℕ) → o.word ≡ say.Number n → o.near ≡ None → o.faults.special ≡ true → IfSome o.far (HoleNamed m) → (n ≡ 0) ⊎ (is_some o.far ≡ true) → IfSome o.sense (Marked m o.far) → Shape m o
  Away : (z : ℤ) → o.word ≡ say.Target z → o.near ≡ None → o.sense ≡ None → IfSome o.far (HoleNamed m) → Shape m o

-- the mark of null is of something that is declared
abbrev pub NullNamed : Names → Option Sense → Type 0
NullNamed m o = IfSome o (λ s. SenseNamed m s × (is_null_tag s.tag ≡ true))

-- A type with a number has a mark that is named, or none.
null_of : (m : Names) (names : List (List ℕ)) (n : List ℕ) (f : ℕ → Ty) (found : Ty) → ((i : ℕ) → i < length names → NullNamed m (null_sense (f i)))
    → option_map f (number_of_name names n) ≡ Some found → NullNamed m (null_sense found)
null_of m names n f found named e = by_number (number_of_name names n) refl e
  where
    by_number : (o : Option ℕ) → number_of_name names n ≡ o → option_map f o ≡ Some found → NullNamed m (null_sense found)
    by_number None is e = cc
    by_number (Some i) is e = subst (λ t. NullNamed m (null_sense t)) (some_is_one (f i) found e) (named i (below names n i is))

null_named : (m : Names) → NumbersFit m → (t : TypeText) (found : Ty) → type_of m t ≡ Some found → NullNamed m (null_sense found)
unfolding type_of null_sense marked_rows
null_named m fit type.Num found e = subst (λ t. NullNamed m (null_sense t)) (some_is_one ty.Num found e) tt
null_named m fit type.Junk found e = subst (λ t. NullNamed m (null_sense t)) (some_is_one ty.Junk found e) tt
null_named m fit (type.Ref n) found e = null_of m m.classes n ty.Ref found (λ i lt. (record { tag_word = omega arith; index_word = small i _ lt fit.classes; index = is_below i _ lt }, refl)) e
null_named m fit (type.ArrRef n) found e = null_of m m.kinds n ty.ArrRef found (λ i lt. (record { tag_word = omega arith; index_word = small i _ lt fit.kinds; index = is_below i _ lt }, refl)) e
null_named m fit (type.Fun n) found e = null_of m m.sigs n ty.Fun found (λ i lt. (record { tag_word = omega arith; index_word = small i _ lt fit.sigs; index = is_below i _ lt }, refl)) e
null_named m fit (type.Obj n) found e = null_of m m.classes n ty.Obj found (λ i lt. tt) e
null_named m fit (type.Arr n) found e = null_of m m.kinds n ty.Arr found (λ i lt. tt) e
null_named m fit (type.Code n) found e = null_of m m.sigs n ty.Code found (λ i lt. tt) e
null_named m fit (type.Tab n) found e = null_of m m.classes n ty.Tab found (λ i lt. tt) e
null_named m fit (type.Desc n) found e = null_of m m.kinds n ty.Desc found (λ i lt. tt) e

-- It is marked, without a hole.
null_marked : (m : Names) (o : Option Sense) → NullNamed m o → IfSome o (Marked m None)
null_marked m None named = tt
null_marked m (Some s) named = (named.0, rw named.1 refl)

-- Null of a type that is known.
null_shape : (m : Names) (o : Option Ty) → IfSome o (λ t. NullNamed m (null_sense t)) → (null_operand o).faults.unknown ≡ false → Shape m (null_operand o)
unfolding null_operand
null_shape m None named known = cc
null_shape m (Some t) named known = Special 0 refl refl refl tt (inl refl) (null_marked m (null_sense t) named)

-- A row whose name is known.
row_shape : (m : Names) (kind tag : ℕ) (o : Option ℕ) → IfSome o (λ i. HoleNamed m (record { kind = kind; index = i }) × SenseNamed m (record { tag = tag; index = i }))
    → (row_operand kind tag o).faults.unknown ≡ false → Shape m (row_operand kind tag o)
unfolding row_operand
row_shape m kind tag None named known = cc
row_shape m kind tag (Some i) named known = Special wide refl refl refl named.0 (inr refl) (named.1, beside (is_null_tag tag))
  where
    beside : (b : Bool) → (b || true) ≡ true
    beside true = refl
    beside false = refl

-- A name that is known has a number that is named so.
known : {P : ℕ → Type 0} (names : List (List ℕ)) (n : List ℕ) → ((i : ℕ) → i < length names → P i) → IfSome (number_of_name names n) P
known {P = P} names n named = by_number (number_of_name names n) refl
  where
    by_number : (o : Option ℕ) → number_of_name names n ≡ o → IfSome o P
    by_number None e = tt
    by_number (Some i) e = named i (below names n i e)

-- An operand in memory whose names are known.
memory_shape : (m : Names) (a : Address) → NumbersFit m → StaticKnown m a → (memory_operand a).faults.unknown ≡ false → Shape m (memory_operand a)
unfolding memory_operand fixed_rows
memory_shape m a fit static is_known = by_place a.place refl (static is_known)
  where
    by_place : (o : Option ℕ) → a.place ≡ o → IfSome o (λ s. s < length m.statics) → Shape m (memory_operand a)
    by_place None none less = Common (rw none tt) refl refl
    by_place (Some s) some lt =
        Common (rw some (record { kind_word = omega arith; kind = refl; index_word = small s _ lt fit.statics; index = is_below s _ lt }, (_, refl, refl))) refl refl

-- A call of the Nucleus.
nucleus_shape : (m : Names) (k : ℤ) → (nucleus_operand k).faults.range ≡ false → Shape m (nucleus_operand k)
unfolding nucleus_operand is_nucleus_entry fixed_rows
nucleus_shape m (pos n) fits =
    let lt : n < 11 = (by_size n fits) in
    let same : word (pos n) ≡ n = word_of_small n lt in
    Away (pos 0) refl refl refl (rw same (record { kind_word = omega arith; kind = refl; index_word = omega (arith, lt); index = is_below n 11 lt }))
  where
    by_tests : (n : ℕ) (a b : Bool) → int_lt (pos 10) (pos n) ≡ b → not (not a && not b) ≡ false → n < 11
    by_tests n true b is e = cc
    by_tests n false true is e = cc
    by_tests n false false is e = grind arith

    by_size : (n : ℕ) → not (not (int_lt (pos n) (pos 0)) && not (int_lt (pos 10) (pos n))) ≡ false → n < 11
    by_size n e = by_tests n (int_lt (pos n) (pos 0)) (int_lt (pos 10) (pos n)) refl e

    word_of_small : (n : ℕ) → n < 11 → word (pos n) ≡ n
    word_of_small n lt = mod-eq_of_lt (omega (arith, lt))
nucleus_shape m (negsuc n) fits = cc

-- A function that is called.
called_shape : (m : Names) (o : Option ℕ) → IfSome o (λ i. HoleNamed m (record { kind = 6; index = i })) → (called_operand o).faults.unknown ≡ false → Shape m (called_operand o)
unfolding called_operand
called_shape m None named is_known = cc
called_shape m (Some f) named is_known = Away (pos 0) refl refl refl named

-- Each operand without a fault has one of the shapes.
pub shape_of : (m : Names) (call : Bool) (z : ℤ) (a : Arg) → NumbersFit m → (arg_operand m call z a).faults.unknown ≡ false → (arg_operand m call z a).faults.range ≡ false → Shape m (arg_operand m call z a)
unfolding arg_operand marked_rows fixed_rows
shape_of m call z (arg.Register r) fit is_known fits = Common tt refl refl
shape_of m call z arg.Cl fit is_known fits = Common tt refl refl
shape_of m call z (arg.Number n) fit is_known fits = Common tt refl refl
shape_of m call z (arg.Null t) fit is_known fits = null_shape m (type_of m t) (by_type (type_of m t) refl) is_known
  where
    by_type : (o : Option Ty) → type_of m t ≡ o → IfSome o (λ t. NullNamed m (null_sense t))
    by_type None e = tt
    by_type (Some found) e = null_named m fit t found e
shape_of m call z (arg.Tab c) fit is_known fits =
    row_shape m 1 7 (number_of_name m.classes c) (known m.classes c (λ i lt. (record { kind_word = omega arith; kind = refl; index_word = small i _ lt fit.classes; index = is_below i _ lt }, record { tag_word = omega arith; index_word = small i _ lt fit.classes; index = is_below i _ lt }))) is_known
shape_of m call z (arg.Desc k) fit is_known fits =
    row_shape m 2 8 (number_of_name m.kinds k) (known m.kinds k (λ i lt. (record { kind_word = omega arith; kind = refl; index_word = small i _ lt fit.kinds; index = is_below i _ lt }, record { tag_word = omega arith; index_word = small i _ lt fit.kinds; index = is_below i _ lt }))) is_known
shape_of m call z (arg.Code f) fit is_known fits =
    row_shape m 3 6 (number_of_name m.functions f) (known m.functions f (λ i lt. (record { kind_word = omega arith; kind = refl; index_word = small i _ lt fit.functions; index = is_below i _ lt }, record { tag_word = omega arith; index_word = small i _ lt fit.functions; index = is_below i _ lt }))) is_known
shape_of m call z (arg.DataOf d) fit is_known fits =
    row_shape m 4 10 (number_of_name m.arrays d) (known m.arrays d (λ i lt. (record { kind_word = omega arith; kind = refl; index_word = small i _ lt fit.arrays; index = is_below i _ lt }, record { tag_word = omega arith; index_word = small i _ lt fit.arrays; index = is_below i _ lt }))) is_known
shape_of m call z (arg.Memory terms) fit is_known fits = memory_shape m (terms_address m terms) fit (terms_known m no_terms terms (λ e. tt)) is_known
shape_of m call z (arg.Nucleus k) fit is_known fits = nucleus_shape m k fits
shape_of m true z (arg.Target n) fit is_known fits =
    called_shape m (number_of_name m.functions n) (known m.functions n (λ i lt. record { kind_word = omega arith; kind = refl; index_word = small i _ lt fit.functions; index = is_below i _ lt })) is_known
shape_of m false z (arg.Target n) fit is_known fits = Away z refl refl refl tt

-- ---- their numbers

null_fits : (o : Option Ty) → WordInRange (null_operand o).word
unfolding null_operand
null_fits None = omega arith
null_fits (Some t) = omega arith

row_fits : (kind tag : ℕ) (o : Option ℕ) → WordInRange (row_operand kind tag o).word
unfolding row_operand
row_fits kind tag None = omega arith
row_fits kind tag (Some i) = omega arith

memory_fits : (a : Address) → AddressFits a → WordInRange (memory_operand a).word
unfolding memory_operand
memory_fits a fits = (fits.0, by_place (is_some a.place))
  where
    by_place : (b : Bool) → (if b then wide else a.disp) < 2 ^ 32
    by_place true = omega arith
    by_place false = fits.1

called_fits : (o : Option ℕ) → WordInRange (called_operand o).word
unfolding called_operand
called_fits None = record { sfits = omega arith }
called_fits (Some f) = record { sfits = omega arith }

nucleus_fits : (k : ℤ) → WordInRange (nucleus_operand k).word
unfolding nucleus_operand
nucleus_fits k = record { sfits = omega arith }

-- An operand's word is in range where the distance is.
pub operand_fits : (m : Names) (call : Bool) (z : ℤ) (a : Arg) → FitsSigned w32 z → WordInRange (arg_operand m call z a).word
unfolding arg_operand
operand_fits m call z (arg.Register r) fits = tt
operand_fits m call z arg.Cl fits = tt
operand_fits m call z (arg.Number n) fits = mod-lt (cast_unsigned w64 n) (omega arith)
operand_fits m call z (arg.Null t) fits = null_fits (type_of m t)
operand_fits m call z (arg.Tab c) fits = row_fits 1 7 (number_of_name m.classes c)
operand_fits m call z (arg.Desc k) fits = row_fits 2 8 (number_of_name m.kinds k)
operand_fits m call z (arg.Code f) fits = row_fits 3 6 (number_of_name m.functions f)
operand_fits m call z (arg.DataOf d) fits = row_fits 4 10 (number_of_name m.arrays d)
operand_fits m call z (arg.Memory terms) fits = memory_fits (terms_address m terms) (terms_fit m no_terms terms (omega arith, omega arith))
operand_fits m call z (arg.Nucleus k) fits = nucleus_fits k
operand_fits m true z (arg.Target n) fits = called_fits (number_of_name m.functions n)
operand_fits m false z (arg.Target n) fits = fits
