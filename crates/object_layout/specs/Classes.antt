use Rattle.std.specs.Prelude.{ℕ, zero, suc, ◌<◌, ◌+◌, ◌-◌, ◌*◌, ◌/◌, nat_eq, Bool, true, false, ◌&&◌, nat_lt, List, [], ◌∷◌, ◌++◌, length, map, replicate, Option, None, slice_get, slice_index_or, if◌then◌else◌}
use Rattle.object_layout.specs.Areas.{word_index, table_address}
use Rattle.std.specs.Option.{option_map, option_and_then, option_map_or}
use Rattle.std.specs.List.{flat_map, list_any}
use Rattle.object_layout.specs.declared.rows.FieldTy.{FieldTy}
use Rattle.object_layout.specs.declared.rows.FieldTy.TheVariants.{Num, Ref, ArrRef, Fun}
use Rattle.object_layout.specs.declared.rows.ClassRow.{ClassRow}
use Rattle.object_layout.specs.declared.rows.KindRow.{KindRow}
use Rattle.object_layout.specs.declared.rows.FunRow.{FunRow}
use Rattle.object_layout.specs.declared.rows.Shape.{Shape}
use Rattle.object_layout.specs.declared.rows.Shape.TheVariants.{Class, Kind}

-- The look-ups of classes and kinds, as functions of the rows.

-- the rows: classes and array kinds, the functions that methods name, and how many signatures there are
pub record ShapesView : Type 0 where
  pub classes : List ClassRow
  pub kinds : List KindRow
  pub funs : List FunRow
  pub sigs : ℕ

-- the class that row c names as its parent
unfoldable pub parent : ShapesView → ℕ → Option ℕ
parent s c = option_and_then (λ (row : ClassRow). row.parent) (slice_get s.classes c)

-- the types of the fields that row c adds
unfoldable pub own_fields : ShapesView → ℕ → List FieldTy
own_fields s c = option_map_or (λ (row : ClassRow). row.fields) (slice_get s.classes c) []

-- the functions in the method slots of class c
unfoldable pub Methods : ShapesView → ℕ → List ℕ
Methods s c = option_map_or (λ (row : ClassRow). row.methods) (slice_get s.classes c) []

-- a function's row
unfoldable pub fun_row : ShapesView → ℕ → FunRow
fun_row s f = slice_index_or s.funs f (record { sig = 0; address = 0 })

-- the signatures of functions
unfoldable pub signatures_of : ShapesView → List ℕ → List ℕ
signatures_of s functions = map (λ f. (fun_row s f).sig) functions

-- the signatures of the method slots of class c
unfoldable pub signatures : ShapesView → ℕ → List ℕ
signatures s c = signatures_of s (Methods s c)

-- class c behind its ancestors, the root first, in at most n classes
unfoldable pub lineage_within : ℕ → ShapesView → ℕ → List ℕ
lineage_within zero s c = []
lineage_within (suc n) s c = option_map_or (lineage_within n s) (parent s c) [] ++ c ∷ []

-- class c behind its ancestors, the root first; since a parent is an earlier class, these are at most c + 1
unfoldable pub lineage : ShapesView → ℕ → List ℕ
lineage s c = lineage_within (suc c) s c

-- how many ancestors class c has
unfoldable pub Depth : ShapesView → ℕ → ℕ
Depth s c = length (lineage s c) - 1

-- there is a class c, and it is d or has d as an ancestor
unfoldable pub Below : ShapesView → ℕ → ℕ → Bool
Below s c d = nat_lt c (length s.classes) && list_any (nat_eq d) (lineage s c)

-- the types of all fields of an object of class c: the parent's, then the own ones
unfoldable pub Fields : ShapesView → ℕ → List FieldTy
Fields s c = flat_map (own_fields s) (lineage s c)

-- the element type of kind k
unfoldable pub Element : ShapesView → ℕ → Option FieldTy
Element s k = option_map (λ (row : KindRow). row.element) (slice_get s.kinds k)

-- the type of the field at a byte of an object of class c: field i stands at byte 4 + 4i
unfoldable pub field_at : ShapesView → ℕ → ℕ → Option FieldTy
field_at s c byte = option_and_then (slice_get (Fields s c)) (word_index 4 byte)

-- the signature of the method at a byte of the table of class c: method m stands at byte 44 + 4m
unfoldable pub slot_at : ShapesView → ℕ → ℕ → Option ℕ
slot_at s c byte = option_and_then (slice_get (signatures s c)) (word_index 44 byte)

-- the class or the kind is there
abbrev pub IsShape : ShapesView → Shape → Type 0
IsShape s (Class c) = c < length s.classes
IsShape s (Kind k) = k < length s.kinds

-- the least multiple of 4 that is not below n
unfoldable pub rounded_up : ℕ → ℕ
rounded_up n = (n + 3) / 4 * 4

-- the heap words that an object takes: a block's two words, then its table word with its fields, or its
-- descriptor word, its length and its elements
unfoldable pub Need : ShapesView → Shape → ℕ → ℕ
Need s (Class c) elements = rounded_up (3 + length (Fields s c))
Need s (Kind k) elements = rounded_up (4 + elements)

-- values of the type refer to objects or arrays
unfoldable pub is_reference : FieldTy → Bool
is_reference Num = false
is_reference (Ref c) = true
is_reference (ArrRef k) = true
is_reference (Fun g) = false

-- the descriptor of a kind whose elements have the type: 1 where they are references, else 0, and three words of 0
unfoldable pub descriptor : FieldTy → List ℕ
descriptor t = (if is_reference t then 1 else 0) ∷ 0 ∷ 0 ∷ 0 ∷ []

-- a word of the descriptor of kind k, if there is such a kind and such a word
unfoldable pub descriptor_word : ShapesView → ℕ → ℕ → Option ℕ
descriptor_word s k word = option_and_then (λ t. slice_get (descriptor t) word) (Element s k)

-- the words, and 0 after them up to n words
unfoldable pub padded : ℕ → List ℕ → List ℕ
padded n words = words ++ replicate (n - length words) 0

-- the table of class c: an object's size in words, the depth, 0, the tables of its lineage by depth (8
-- words), and the addresses of its methods (53 words)
unfoldable pub table : ShapesView → ℕ → List ℕ
table s c =
    (1 + length (Fields s c)) ∷ Depth s c ∷ 0 ∷ (
    padded 8 (map table_address (lineage s c)) ++ padded 53 (map (λ f. (fun_row s f).address) (Methods s c))
    )

-- a word of the table of class c, if there is such a class and such a word
unfoldable pub table_word : ShapesView → ℕ → ℕ → Option ℕ
table_word s c word = if nat_lt c (length s.classes) then slice_get (table s c) word else None
