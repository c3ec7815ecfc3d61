-- The laws of blocks, each by its lemma.
use Rattle.std.proofs.Common.{◌≡◌, ◌≢◌, ℕ, ◌+◌, ◌<◌, ◌≤◌, ◌⊎◌, inl, inr, true, List, length, zero, suc, arith, subst, sym}
use Rattle.std.proofs.lemmas.Bool.{cases_lt, cases_order}
use Rattle.heap_words.specs.Headers.{size_at, used_at}
use Rattle.heap_words.specs.Blocks.{Begins, FormedHeap, IsFree, IsUsed, IsObjectWord}
use Rattle.heap_words.specs.Laws.{LiesIn, PlaceLaws, HeaderLaws, ListLaws, BlockLaws}
use Rattle.heap_words.proofs.HeaderLaws.{size-mod, whole-size, whole-free, whole-plain}
use Rattle.heap_words.proofs.Places.{apart, begins-first, begins-next, begins-row}
use Rattle.heap_words.proofs.BlockLists.{rest-block, rest-end, same-list, replaces_one, replaces_two}
use Rattle.heap_words.proofs.Writes.{same-set, formed_same, room}

-- behind a block stands another, or the heap ends
next-or_end : (words : List ℕ) (i : ℕ) → FormedHeap words → Begins words i → (i + size_at words i ≡ length words) ⊎ Begins words (i + size_at words i)
next-or_end words i f b = choose (cases_lt (i + size_at words i) (length words))
  where
    choose : (i + size_at words i < length words) ⊎ (length words ≤ i + size_at words i) → (i + size_at words i ≡ length words) ⊎ Begins words (i + size_at words i)
    choose (inl l) = inr (begins-next words i b l)
    choose (inr l) = let w = (f.whole i b).within in inl (omega arith)

-- no word of another block is a block's first word
separate : (words : List ℕ) (i j k : ℕ) → Begins words i → Begins words j → j ≢ i → j ≤ k → k < j + size_at words j → k ≢ i
separate words i j k b d n l h e = choose (cases_order i j)
  where
    choose : (i ≡ j) ⊎ ((i < j) ⊎ (j < i)) → ⊥
    choose (inl g) = n (sym g)
    choose (inr (inl g)) = omega arith
    choose (inr (inr g)) = let a = apart words j i d b g in omega arith

-- a word from a block on lies in that block or in a later one, of n at most
lies_from : (words : List ℕ) → FormedHeap words → (k n i : ℕ) → Begins words i → i ≤ k → k < length words → k < i + n → LiesIn words k
lies_from words f k zero i b h l g = absurd (omega arith)
lies_from words f k (suc n) i b h l g = choose (cases_lt k (i + size_at words i)) (lies_from words f k n (i + size_at words i))
  where
    choose : (k < i + size_at words i) ⊎ (i + size_at words i ≤ k)
        → (Begins words (i + size_at words i) → i + size_at words i ≤ k → k < length words → k < i + size_at words i + n → LiesIn words k) → LiesIn words k
    choose (inl m) rest = record { block = i; begins = b; behind = h; before = m }
    choose (inr m) rest =
        let p = (f.whole i b).positive in
        rest (begins-next words i b (omega arith)) m l (omega arith)

-- each word lies in a block
lies_in : (words : List ℕ) (k : ℕ) → FormedHeap words → k < length words → LiesIn words k
lies_in words k f l = lies_from words f k (suc k) 0 (begins-first words (omega arith)) (omega arith) l (omega arith)

-- a word of a used block behind its first two is an object's
object_word : (words : List ℕ) (i k : ℕ) → IsUsed words i → 2 ≤ k → k < size_at words i → IsObjectWord words (i + k)
object_word words i k u two less = record {
  header = λ j b e. ahead j 0 b (cases_order i j) (omega arith) (omega arith);
  link = λ j b e. ahead j 1 b (cases_order i j) (omega arith) (omega arith);
  back = λ j f e. behind j f (cases_order i j) (omega arith);
}
  where
    ahead : (j d : ℕ) → Begins words j → (i ≡ j) ⊎ ((i < j) ⊎ (j < i)) → d < 2 → i + k ≡ j + d → ⊥
    ahead j d b (inl e) m g = omega arith
    ahead j d b (inr (inl l)) m g = let a = apart words i j u.begins b l in omega arith
    ahead j d b (inr (inr l)) m g = omega arith

    behind : (j : ℕ) → IsFree words j → (i ≡ j) ⊎ ((i < j) ⊎ (j < i)) → i + k ≡ j + 2 → ⊥
    behind j f (inl e) g = let t : used_at words j ≡ true = subst (λ p. used_at words p ≡ true) e u.used in let s = f.free in cc
    behind j f (inr (inl l)) g = let a = apart words i j u.begins f.begins l in omega arith
    behind j f (inr (inr l)) g = omega arith

-- where blocks lie
place-laws : PlaceLaws
place-laws = record {
  first = begins-first;
  next = next-or_end;
  row = begins-row;
  apart = apart;
  separate = separate;
  room = room;
  covered = lies_in;
  object = object_word;
}

-- what headers say of blocks
header-laws : HeaderLaws
header-laws = record { row = size-mod; plain_size = whole-size; plain_free = whole-free; plain_mark = whole-plain; written = same-set; formed = formed_same }

-- how the list of blocks follows the headers
list_laws : ListLaws
list_laws = record { block = rest-block; end = rest-end; same = same-list; one = replaces_one; two = replaces_two }

-- all of them
pub block-laws : BlockLaws
block-laws = record { places = place-laws; headers = header-laws; lists = list_laws }
