use Rattle.std.proofs.Common.{◌≡◌, ◌≢◌, ℕ, ◌+◌, ◌-◌, ◌<◌, ◌≤◌, ◌⊎◌, inl, inr, List, [], ◌∷◌, length, get_or, zero, suc, arith, refl, ap, subst}
use Rattle.std.proofs.lemmas.Bool.{cases_eq}
use Rattle.heap_words.specs.Headers.{size_at}
use Rattle.heap_words.specs.Blocks.{IsFree, FormedHeap}
use Rattle.free_index.specs.Classes.{class_of_size}
use Rattle.free_index.specs.Free.{NoneSuffices}
use Rattle.free_index.specs.Lists.{In, Once, Chain, ClassList, AreListed}
use Rattle.free_index.specs.Steps.{NoneOfClass, Searching, links_from}
use Rattle.free_index.proofs.Removal.{Without, taken_out, without_in, without_not, once_without}
use Rattle.free_index.proofs.Removal.Without.{here, there}
use Rattle.free_index.proofs.SizeClasses.{class_most, class_mono}

-- a list of different numbers below n has at most n
length-without : (i : ℕ) (list rest : List ℕ) → Without i list rest → length list ≡ suc (length rest)
length-without i _ _ (here xs) = refl
length-without i _ _ (there x xs ys n w) = ap suc (length-without i xs ys w)

-- a number is in a list or not
member : (n : ℕ) (xs : List ℕ) → In n xs ⊎ (In n xs → ⊥)
member n [] = inr (λ m. m)
member n (x ∷ xs) = choose (cases_eq n x) (member n xs)
  where
    neither : n ≢ x → (In n xs → ⊥) → (n ≡ x) ⊎ In n xs → ⊥
    neither d f (inl e) = d e
    neither d f (inr m) = f m

    choose : (n ≡ x) ⊎ (n ≢ x) → In n xs ⊎ (In n xs → ⊥) → In n (x ∷ xs) ⊎ (In n (x ∷ xs) → ⊥)
    choose (inl e) r = inl (inl e)
    choose (inr d) (inl m) = inl (inr m)
    choose (inr d) (inr f) = inr (neither d f)

-- a member is not what is no member
in_not : (i j : ℕ) (xs : List ℕ) → (In i xs → ⊥) → In j xs → j ≢ i
in_not i j xs f m e = f (let P : ℕ → Type 0 = λ k. In k xs in subst P e m)

-- different numbers below n are at most n
pub once-most : (n : ℕ) (xs : List ℕ) → Once xs → ((i : ℕ) → In i xs → i < n) → length xs ≤ n
once-most zero [] o h = omega arith
once-most zero (x ∷ xs) o h = let l = h x (inl refl) in absurd (omega arith)
once-most (suc n) xs o h = choose (member n xs) (once-most n)
  where
    below : (i : ℕ) → i < suc n → i ≢ n → i < n
    below i l d = omega arith

    out : (rest : List ℕ) × Without n xs rest → ((ys : List ℕ) → Once ys → ((i : ℕ) → In i ys → i < n) → length ys ≤ n) → length xs ≤ suc n
    out (rest, w) r =
        let s = r rest (once_without n xs rest w o) (λ i m. below i (h i (without_in n i xs rest w m)) (in_not n i rest (without_not n xs rest w o) m)) in
        let e = length-without n xs rest w in
        omega arith

    choose : In n xs ⊎ (In n xs → ⊥) → ((ys : List ℕ) → Once ys → ((i : ℕ) → In i ys → i < n) → length ys ≤ n) → length xs ≤ suc n
    choose (inl m) r = out (taken_out n xs m) r
    choose (inr f) r = let s = r xs o (λ i m. below i (h i m) (in_not n i xs f m)) in omega arith

-- the search begins at the head
pub searching_first : (u heads : List ℕ) (class need : ℕ) → AreListed u (IsFree u) heads → class < 32 → Searching u class need (get_or heads class 0)
searching_first u heads class need s l = record {
  rest = c.list;
  before = 0;
  chain = c.chain;
  free = λ i m. (c.each i m).0;
  seen = λ i f e. inl (c.all i f e);
  few = once-most (length u) c.list c.once (λ i m. (c.each i m).0.begins.inside);
}
  where
    c : ClassList u (IsFree u) class (get_or heads class 0)
    c = s class l

-- where it stands at a block, the block is free, and one link fewer leads on from it
pub record SearchStep (u : List ℕ) (class need link : ℕ) : Type 0 where
  pub free : IsFree u (link - 1)
  pub next : size_at u (link - 1) < need → Searching u class need (get_or u (link - 1 + 1) 0)
  pub nearer : links_from (length u) u (get_or u (link - 1 + 1) 0) < links_from (length u) u link

-- the links that lead on are those of the list
links_chain : (u list : List ℕ) (n back link : ℕ) → Chain u back link list → length list ≤ n → links_from n u link ≡ length list
unfolding links_from
links_chain u [] zero back link c l = refl
links_chain u [] (suc n) back link c l = rw c refl
links_chain u (x ∷ xs) zero back link c l = absurd (omega arith)
links_chain u (x ∷ xs) (suc n) back link c l =
    let e : link ≡ suc x = let q = c.0 in omega arith in
    let r : links_from n u (get_or u (x + 1) 0) ≡ length xs = links_chain u xs n (x + 1) (get_or u (x + 1) 0) c.2 (omega arith) in
    let p : suc x ≡ x + 1 = omega arith in
    let q : links_from n u (get_or u (suc x) 0) ≡ length xs = rw p r in
    rw e (ap suc q)

-- one step of a search
pub search-step : (u : List ℕ) (class need link : ℕ) → Searching u class need link → 0 < link → SearchStep u class need link
search-step u class need link s h = go s.rest s.chain s.free s.seen s.few
  where
    go : (xs : List ℕ) → Chain u s.before link xs → ((i : ℕ) → In i xs → IsFree u i)
        → ((i : ℕ) → IsFree u i → class_of_size (size_at u i) ≡ class → In i xs ⊎ (size_at u i < need)) → length xs ≤ length u
        → SearchStep u class need link
    go [] c f g n = absurd (omega arith)
    go (x ∷ xs) c f g n = record {
      free = rw e (f x (inl refl));
      next = λ l. rw e (record { rest = xs; before = x + 1; chain = c.2; free = λ i m. f i (inr m); seen = λ i q d. seen (rw e at l) i (g i q d); few = omega arith });
      nearer = rw (links_chain u (x ∷ xs) (length u) s.before link c n, e, links_chain u xs (length u) (x + 1) (get_or u (x + 1) 0) c.2 (omega arith)) (omega arith);
    }
      where
        e : link - 1 ≡ x
        e = let q = c.0 in omega arith

        seen : size_at u x < need → (i : ℕ) → In i (x ∷ xs) ⊎ (size_at u i < need) → In i xs ⊎ (size_at u i < need)
        seen small i (inl (inl q)) = inr (rw q small)
        seen small i (inl (inr m)) = inl m
        seen small i (inr m) = inr m

-- at the end no block of the class fits
pub searching_none : (u : List ℕ) (class need link : ℕ) → Searching u class need link → link ≡ 0 → NoneOfClass u class need
searching_none u class need link s h = go s.rest s.chain s.seen
  where
    go : (xs : List ℕ) → Chain u s.before link xs → ((i : ℕ) → IsFree u i → class_of_size (size_at u i) ≡ class → In i xs ⊎ (size_at u i < need)) → NoneOfClass u class need
    go [] c g i f e = out (g i f e)
      where
        out : In i [] ⊎ (size_at u i < need) → size_at u i < need
        out (inl m) = absurd m
        out (inr l) = l
    go (x ∷ xs) c g i f e = let q = c.0 in absurd (omega arith)

-- no class from the need's own on has a block
pub none-fits : (u : List ℕ) (need : ℕ) → ((class : ℕ) → class_of_size need ≤ class → class < 32 → NoneOfClass u class need) → NoneSuffices u need
none-fits u need h i f = choose (order (class_of_size need) (class_of_size (size_at u i))) (order need (size_at u i))
  where
    order : (m n : ℕ) → (m ≤ n) ⊎ (n < m)
    order m n = grind arith

    choose : (class_of_size need ≤ class_of_size (size_at u i)) ⊎ (class_of_size (size_at u i) < class_of_size need) → (need ≤ size_at u i) ⊎ (size_at u i < need) → size_at u i < need
    choose p (inr l) = l
    choose (inl l) (inl m) = h (class_of_size (size_at u i)) l (class_most (size_at u i)) i f refl
    choose (inr l) (inl m) = let q = class_mono need (size_at u i) m in absurd (omega arith)

-- no block is larger than the heap
pub none-large : (u : List ℕ) (need : ℕ) → FormedHeap u → length u < need → NoneSuffices u need
none-large u need f l i g = let w = (f.whole i g.begins).within in omega arith
