-- How the rows of the tables are read, one field after another.
use Rattle.std.proofs.Common.{◌≡◌, ℕ, suc, Bool, true, false, not, cond, ◌&&◌, List, [], ◌∷◌, Result, Ok, Err, refl, ap, ◌∙◌}
use Rattle.std.specs.Prelude.{◌==◌, if◌then◌else◌}
use Rattle.tal_types.specs.declared.types.Ty.{Ty}
use Rattle.file_fields.specs.declared.fault.ImageFault.{ImageFault}
use Rattle.file_fields.specs.declared.fault.ImageFault.TheVariants.{Magic, Version, Bad}
use Rattle.file_fields.specs.Grammar.{Grammar, done, field, checked, each, then_with}
use Rattle.file_fields.specs.Reading.{◌▸◌, any_number_at, pair_at, run}
use Rattle.file_fields.specs.Composed.{bind_then, same_bind, run-then_with, then_run, number_run, pair_run, many_run}
use Rattle.tal_image.specs.declared.parts.Header.{Header}
use Rattle.tal_image.specs.Conditions.{Tables, between, where_given, heap_fits, type_fits, is_field_tag, sig_fits, kind_fits, array_fits}
use Rattle.tal_image.specs.Fields.{header_where, type_with, type_field, field_type_field, field_type_with, sig_fields, function_where, kind_fields, any_number, array_where}

-- a number, and what is read then
pub number_then : {B : Type 0} (ok : ℕ → Bool) (fault : ℕ → ImageFault) (file : List ℕ) (at : ℕ) (f : ℕ → Grammar B) (more : ℕ × ℕ → Result (B × ℕ) ImageFault)
    → ((n : ℕ × ℕ) → run (f n.0) file n.1 ≡ more n)
    → run (then_with (field ok fault) f) file at ≡ (any_number_at file at ▸ λ n. cond (ok n.0) (more n) (Err (fault at)))
unfolding then_with
number_then {B} ok fault file at f more same =
    number_run ok fault f file at
    ∙ same_bind (any_number_at file at) _ _ (λ n. ap (λ (r : Result (B × ℕ) ImageFault). cond (ok n.0) r (Err (fault at))) (same n))

-- a type
pub type_run : (t : Tables) (file : List ℕ) (at : ℕ)
    → run (type_field t) file at ≡ (pair_at file at ▸ λ p. cond (type_fits t p.0.0 p.0.1) (Ok (type_with p.0.0 p.0.1, p.1)) (Err (Bad at 12)))
unfolding type_field
type_run t file at = pair_run (type_fits t) (λ tag index at. Bad at 12) (λ tag index. done (type_with tag index)) file at

-- two conditions of one field, the first one first
two_tests : {B : Type 0} (a b : Bool) (x : Result B ImageFault) (at : ℕ) → cond (a && b) x (Err (Bad at (cond a 18 12))) ≡ cond (not a) (Err (Bad at 12)) (cond b x (Err (Bad at 18)))
two_tests true true x at = refl
two_tests true false x at = refl
two_tests false b x at = refl

-- the type of a field, a static or an element
pub field_type_run : (t : Tables) (file : List ℕ) (at : ℕ)
    → run (field_type_field t) file at
    ≡ (pair_at file at ▸ λ p. cond (not (type_fits t p.0.0 p.0.1)) (Err (Bad at 12)) (cond (is_field_tag p.0.0) (Ok (field_type_with p.0.0 p.0.1, p.1)) (Err (Bad at 18))))
unfolding field_type_field
field_type_run t file at =
    pair_run (λ tag index. type_fits t tag index && is_field_tag tag) (λ tag index at. Bad at (if type_fits t tag index then 18 else 12)) (λ tag index. done (field_type_with tag index)) file at
    ∙ same_bind (pair_at file at) _ _ (λ p. two_tests (type_fits t p.0.0 p.0.1) (is_field_tag p.0.0) (Ok (field_type_with p.0.0 p.0.1, p.1)) at)

-- one type more, and what is read then
one_more : {B : Type 0} (t : Tables) (n : ℕ) (file : List ℕ) (at : ℕ) (k : List Ty × ℕ → Result B ImageFault)
    → (run (each (suc n) (type_field t)) file at ▸ k) ≡ (run (type_field t) file at ▸ λ x. run (each n (type_field t)) file x.1 ▸ λ xs. k (x.0 ∷ xs.0, xs.1))
one_more t n file at k =
    ap (λ r. r ▸ k) (many_run {S = ℕ} (λ later kept. type_field t) (λ kept x. kept) n 0 file at)
    ∙ bind_then (run (type_field t) file at) _ k
    ∙ same_bind (run (type_field t) file at) _ _ (λ x. bind_then (run (each n (type_field t)) file x.1) _ k)

-- what was read, and nothing then
bind_ok : {A : Type 0} (r : Result A ImageFault) → r ≡ (r ▸ λ x. Ok x)
bind_ok (Ok x) = refl
bind_ok (Err e) = refl

-- the types of the registers
pub seven_run : (t : Tables) (file : List ℕ) (at : ℕ)
    → run (each 7 (type_field t)) file at
    ≡ (run (type_field t) file at ▸ λ eax. run (type_field t) file eax.1 ▸ λ ecx. run (type_field t) file ecx.1 ▸ λ edx. run (type_field t) file edx.1 ▸ λ ebx.
    run (type_field t) file ebx.1 ▸ λ ebp. run (type_field t) file ebp.1 ▸ λ esi. run (type_field t) file esi.1 ▸ λ edi.
    Ok (eax.0 ∷ ecx.0 ∷ edx.0 ∷ ebx.0 ∷ ebp.0 ∷ esi.0 ∷ edi.0 ∷ [], edi.1))
seven_run t file at =
    bind_ok (run (each 7 (type_field t)) file at)
    ∙ one_more t 6 file at _ ∙ same_bind (run (type_field t) file at) _ _ (λ eax. one_more t 5 file eax.1 _ ∙ same_bind (run (type_field t) file eax.1) _ _ (λ ecx. one_more t 4 file ecx.1 _ ∙ same_bind (run (type_field t) file ecx.1) _ _ (λ edx. one_more t 3 file edx.1 _ ∙ same_bind (run (type_field t) file edx.1) _ _ (λ ebx. one_more t 2 file ebx.1 _ ∙ same_bind (run (type_field t) file ebx.1) _ _ (λ ebp. one_more t 1 file ebp.1 _ ∙ same_bind (run (type_field t) file ebp.1) _ _ (λ esi. one_more t 0 file esi.1 _ ∙ same_bind (run (type_field t) file esi.1) _ _ (λ edi. refl)))))))

-- a signature
pub sig_run : (t : Tables) (file : List ℕ) (at : ℕ)
    → run (sig_fields t) file at
    ≡ (run (each 7 (type_field t)) file at ▸ λ params. run (type_field t) file params.1 ▸ λ result. Ok (record { params = params.0; result = result.0 }, result.1))
unfolding sig_fields
sig_run t file at = then_run (each 7 (type_field t)) _ file at _ (λ params. run-then_with (type_field t) _ file params.1)

-- an array kind
pub kind_run : (t : Tables) (file : List ℕ) (at : ℕ)
    → run (kind_fields t) file at ≡ (run (field_type_field t) file at ▸ λ element. Ok (record { element = element.0 }, element.1))
unfolding kind_fields
kind_run t file at = run-then_with (field_type_field t) _ file at

-- a function
pub function_run : (t : Tables) (long : ℕ → Bool) (file : List ℕ) (at : ℕ)
    → run (function_where t long) file at
    ≡ (any_number_at file at ▸ λ len. cond (long len.0)
    (any_number_at file len.1 ▸ λ sig. cond (sig_fits t sig.0) (Ok (record { length = len.0; sig = sig.0 }, sig.1)) (Err (Bad len.1 14)))
    (Err (Bad at 13)))
unfolding function_where
function_run t long file at =
    number_then long (λ at. Bad at 13) file at _ _ (λ len. number_then (sig_fits t) (λ at. Bad at 14) file len.1 _ _ (λ sig. refl))

-- a data array
pub array_run : (t : Tables) (given : ℕ → ℕ → ℕ) (used : ℕ) (file : List ℕ) (at : ℕ)
    → run (array_where t given used) file at
    ≡ (run (checked (kind_fits t) 21) file at ▸ λ kind. run (checked (array_fits used) 22) file kind.1 ▸ λ size.
    run (each (given kind.0 size.0) any_number) file size.1 ▸ λ ns. Ok (record { kind = kind.0; size = size.0; numbers = ns.0 }, ns.1))
unfolding array_where
array_run t given used file at =
    then_run (checked (kind_fits t) 21) (λ kind. then_with (checked (array_fits used) 22) (λ size. then_with (each (given kind size) any_number) (λ ns. done (record { kind = kind; size = size; numbers = ns })))) file at _ (λ kind.
    then_run (checked (array_fits used) 22) (λ size. then_with (each (given kind.0 size) any_number) (λ ns. done (record { kind = kind.0; size = size; numbers = ns }))) file kind.1 _ (λ size.
    run-then_with (each (given kind.0 size.0) any_number) (λ ns. done (record { kind = kind.0; size = size.0; numbers = ns })) file size.1))

-- the header of these numbers
abbrev header_of : ℕ → ℕ → ℕ → ℕ → ℕ → ℕ → ℕ → ℕ → ℕ → ℕ → ℕ → Header
header_of heap_words stacks sigs functions classes kinds statics arrays code blocks marks = record {
  heap_words = heap_words;
  stacks = stacks;
  sigs = sigs;
  functions = functions;
  classes = classes;
  kinds = kinds;
  statics = statics;
  arrays = arrays;
  code = code;
  blocks = blocks;
  marks = marks;
}

-- the header
pub header_run : (letters : ℕ) (partial : Bool) (file : List ℕ) (at : ℕ)
    → run (header_where letters partial) file at
    ≡ (run (field (λ n. n == letters) (λ at. Magic)) file at ▸ λ magic. run (field (λ n. n == 1) (λ at. Version)) file magic.1 ▸ λ version.
    run (checked (where_given partial heap_fits) 1) file version.1 ▸ λ heap_words. run (checked (where_given partial (between 2 64)) 2) file heap_words.1 ▸ λ stacks.
    run (checked (where_given partial (between 1 4096)) 3) file stacks.1 ▸ λ sigs. run (checked (where_given partial (between 1 16384)) 4) file sigs.1 ▸ λ functions.
    run (checked (between 0 1024) 5) file functions.1 ▸ λ classes. run (checked (between 0 256) 6) file classes.1 ▸ λ kinds.
    run (checked (between 0 65536) 7) file kinds.1 ▸ λ statics. run (checked (between 0 65536) 8) file statics.1 ▸ λ arrays.
    run (checked (where_given partial (between 1 1048576)) 9) file arrays.1 ▸ λ code. run (checked (between 0 65536) 10) file code.1 ▸ λ blocks.
    run (checked (between 0 65536) 11) file blocks.1 ▸ λ marks.
    Ok (header_of heap_words.0 stacks.0 sigs.0 functions.0 classes.0 kinds.0 statics.0 arrays.0 code.0 blocks.0 marks.0, marks.1))
unfolding header_where
header_run letters partial file at =
    then_run (field (λ n. n == letters) (λ at. Magic)) _ file at _ (λ magic. then_run (field (λ n. n == 1) (λ at. Version)) _ file magic.1 _ (λ version.
    then_run (checked (where_given partial heap_fits) 1) _ file version.1 _ (λ heap_words.
    then_run (checked (where_given partial (between 2 64)) 2) _ file heap_words.1 _ (λ stacks.
    then_run (checked (where_given partial (between 1 4096)) 3) _ file stacks.1 _ (λ sigs.
    then_run (checked (where_given partial (between 1 16384)) 4) _ file sigs.1 _ (λ functions.
    then_run (checked (between 0 1024) 5) _ file functions.1 _ (λ classes.
    then_run (checked (between 0 256) 6) _ file classes.1 _ (λ kinds.
    then_run (checked (between 0 65536) 7) _ file kinds.1 _ (λ statics.
    then_run (checked (between 0 65536) 8) _ file statics.1 _ (λ arrays.
    then_run (checked (where_given partial (between 1 1048576)) 9) _ file arrays.1 _ (λ code.
    then_run (checked (between 0 65536) 10) _ file code.1 _ (λ blocks.
    then_run (checked (between 0 65536) 11) _ file blocks.1 _ (λ marks. refl)))))))))))))
