-- The running stack: the word on top, and what pushing and dropping leave.
use Rattle.std.proofs.Common.{◌≡◌, ◌≢◌, ◌⊎◌, inl, inr, ⊎_elim, ◌+◌, ◌-◌, ◌*◌, ◌<◌, ◌≤◌, ◌==◌, ℕ, Bool, true, false, if◌then◌else◌, arith, refl, ap, subst, List, [], ◌∷◌, length, drop, Some, slice_get}
use Rattle.std.specs.Option.{option_map_or}
use Rattle.std.proofs.lemmas.Bool.Decides.{nat_tests}
use Rattle.std.proofs.lemmas.List.{length-drop}
use Rattle.std.proofs.lemmas.Option.{slice_get_within}
use Rattle.object_layout.specs.Areas.{stacks_start}
use Rattle.object_layout.specs.Laws.{ClassLaws}
use Rattle.tal_image.specs.Shown.{shapes_of}
use Rattle.typed_machine.specs.Stores.{Object}
use Rattle.std.proofs.lemmas.Bool.{cases_lt}
use Rattle.ia32_step.specs.declared.cpu.Cpu.{Cpu}
use Rattle.tal_image.specs.Image.{ImageParts}
use Rattle.tal_checker.specs.WellTyped.{WellTyped}
use Rattle.typed_machine.specs.Values.{Value, Word}
use Rattle.typed_machine.specs.States.{State, EmptyStack, places_of, with_values, most_values}
use Rattle.typed_machine.specs.Typing.{TypedAmong}
use Rattle.typed_machine.specs.Words.{stack_pointer, register_words, esp_of, object_values}
use Rattle.word_machine.specs.Memory.{MemoryView}
use Rattle.word_machine.specs.Standing.{HoldsValues, kept_values, values_at, IsInside, ObjectsLie, MemoryStands}
use Rattle.word_machine.specs.Following.{Grounds}
use Rattle.word_machine.specs.Laws.{WordChanges, PushLaw, DropLaw}
use Rattle.word_machine.proofs.Holding.{Outside, Change, holds-pushed, holds-dropped}
use Rattle.word_machine.proofs.Changing.{StackHolds, tables-kept, descriptors_kept, room-kept, blocks-kept, statics-kept, object_kept, stack_kept}
use Rattle.word_machine.proofs.Bounds.{few-stacks, runs-there}

-- what holds of a stack's values holds of them where the running stack has others, if it holds of those
pub stacks-with : (P : ℕ → List Value → Type 0) (s : State) (values : List Value) (n : ℕ) → (n ≡ s.current → P n values)
    → ((n == s.current) ≡ false → P n (values_at s n))
    → P n (values_at (with_values values s) n)
unfolding values_at
stacks-with P s values n here other = go (n == s.current) refl (λ e. rw e at (other e))
  where
    kept : List Value
    kept = option_map_or kept_values (slice_get s.stacks n) []

    go : (b : Bool) → (n == s.current) ≡ b → ((n == s.current) ≡ false → P n kept) → P n (if b then values else kept)
    go true e f = here (grind (arith, nat_tests))
    go false e f = f e

-- where objects lie does not hang on the running stack
same-lie : (image : ImageParts) (live : ℕ → Bool) (s : State) (values : List Value) → ObjectsLie image live s → ObjectsLie image live (with_values values s)
same-lie image live s values lie = record { short = lie.short; aligned = lie.aligned; inside = lie.inside; apart = lie.apart }

module _ {image : ImageParts} {live : ℕ → Bool} {s : State} {cpu : Cpu} {m : MemoryView} (g : Grounds image live s cpu m) where
  -- the values of the running stack
  pub running_values : values_at s s.current ≡ s.values
  unfolding values_at
  running_values = let e : (s.current == s.current) ≡ true = grind (arith, nat_tests) in rw e refl

  -- their words
  pub running_holds : HoldsValues m (places_of s) (esp_of s) s.values
  running_holds = subst (λ values. StackHolds m s s.current values) running_values (g.stand.memory.stacks s.current (runs-there g))

  module _ (laws : ClassLaws (shapes_of image)) {after : MemoryView} {a w : ℕ} (c : Change m after a w) where
    -- where a word of the running stack changed, the memory stands for other values of this stack if their words are there
    pub stack_written : (values : List Value) → stacks_start + 16384 * s.current ≤ a → a < stacks_start + 16384 * (s.current + 1) → StackHolds after s s.current values
        → MemoryStands image live (with_values values s) after
    stack_written values low high holds =
        let memory = g.stand.memory in
        record {
          tables = tables-kept g c laws (omega arith);
          descriptors = descriptors_kept g c laws (omega arith);
          statics = let short = memory.lie.short in statics-kept g c (inr (omega arith));
          objects = λ i o lives there. object_kept g c i o lives there (apart i o (memory.lie.inside i o lives there));
          stacks = λ n there. stacks-with (StackHolds after s) s values n (λ is. rw is holds) (λ other. stack_kept g c n there (beside n other));
          room = room-kept g c;
          lie = same-lie image live s _ memory.lie;
          blocks = let few = few-stacks g in let there = runs-there g in blocks-kept g c (omega arith);
        }
      where
        apart : (i : ℕ) (o : Object) → IsInside image s i o → Outside a o.place (length (object_values o))
        apart i o (inl (row, above, below)) = inr (omega arith)
        apart i o (inr (heap, above, below)) = let few = few-stacks g in let there = runs-there g in inl (omega arith)

        beside : (n : ℕ) → (n == s.current) ≡ false → (a < stacks_start + 16384 * n) ⊎ (stacks_start + 16384 * (n + 1) ≤ a)
        beside n other =
            let differ : n ≢ s.current = grind (arith, nat_tests) in
            ⊎_elim (λ (l : n < s.current). inr (omega arith)) (λ (l : s.current ≤ n). inl (omega arith)) (cases_lt n s.current)

  -- a value is pushed
  pub values-pushed : ClassLaws (shapes_of image) → length s.values < most_values → PushLaw image live s m
  values-pushed laws few =
      let room = g.typed.thread.room in
      let runs = runs-there g in
      record {
        there = g.stand.memory.room (esp_of s - 4) (omega arith) (omega arith) (omega arith);
        pushed = λ v after written.
            let c : Change m after (esp_of s - 4) (Word (places_of s) v) = record { written = written } in
            let base : esp_of s ≡ esp_of s - 4 + 4 = omega arith in
            let grown : stack_pointer s.current (length (v ∷ s.values)) ≡ esp_of s - 4 = omega arith in
            stack_written laws c (v ∷ s.values) (omega arith) (omega arith)
            (rw grown (holds-pushed c (places_of s) (esp_of s) s.values running_holds v base refl));
      }

  -- values are dropped
  dropped : (n : ℕ) → n ≤ length s.values → MemoryStands image live (with_values (drop n s.values) s) m
  dropped n few =
      let memory = g.stand.memory in
      record {
        tables = memory.tables;
        descriptors = memory.descriptors;
        statics = memory.statics;
        objects = memory.objects;
        stacks = λ k there. stacks-with (λ j values. StackHolds m s j values) s (drop n s.values) k (λ is. rw is shorter) (λ other. memory.stacks k there);
        room = memory.room;
        lie = same-lie image live s _ memory.lie;
        blocks = memory.blocks;
      }
    where
      shorter : StackHolds m s s.current (drop n s.values)
      shorter =
          let fewer = length-drop n s.values in
          let room = g.typed.thread.room in
          let up : stack_pointer s.current (length (drop n s.values)) ≡ esp_of s + 4 * n = omega arith in
          rw up (holds-dropped m (places_of s) (esp_of s) n s.values running_holds)

  -- the law
  pub values-dropped : DropLaw image live s m
  values-dropped = record {
    there = λ v vs is.
        let room = g.typed.thread.room in
        let runs = runs-there g in
        let depth : length s.values ≡ length (v ∷ vs) = ap length is in
        g.stand.memory.room (esp_of s) (omega arith) (omega arith) (omega arith);
    top = λ v vs is. let same : esp_of s ≡ esp_of s + 4 * 0 = omega arith in rw same (running_holds 0 v (rw is refl));
    dropped = dropped;
  }

-- ---- stacks that do not run

-- the processor of a state: where the memory stands for the state, the words stand
abbrev cpu_of : State → Cpu
cpu_of s = record { regs = register_words (places_of s) s.thread.regs (esp_of s); flags = s.thread.flags; pc = s.thread.place }

-- the last word of an empty stack is free
pub empty-free : (image : ImageParts) (live : ℕ → Bool) (s : State) (m : MemoryView) → WellTyped image → TypedAmong image live s → MemoryStands image live s m
    → ClassLaws (shapes_of image) → (n : ℕ) → slice_get s.stacks n ≡ Some EmptyStack
    → (w : ℕ) (after : MemoryView) → WordChanges m after (stack_pointer n 1) w → MemoryStands image live s after
unfolding values_at kept_values
empty-free image live s m well_typed typed memory laws n empty w after written =
    record {
      tables = tables-kept g c laws (omega arith);
      descriptors = descriptors_kept g c laws (omega arith);
      statics = let short = memory.lie.short in statics-kept g c (inr (omega arith));
      objects = λ i o lives here. object_kept g c i o lives here (apart i o (memory.lie.inside i o lives here));
      stacks = λ k inside. at k inside (k == n) refl;
      room = room-kept g c;
      lie = memory.lie;
      blocks = blocks-kept g c (omega (arith, there, few));
    }
  where
    g : Grounds image live s (cpu_of s) m
    g = record {
      well_typed = well_typed;
      typed = typed;
      stand = record { processor = record { regs = refl; flags = refl; place = refl }; memory = memory };
    }

    c : Change m after (stack_pointer n 1) w
    c = record { written = written }

    there : n < image.stacks
    there = let within = slice_get_within s.stacks n EmptyStack empty in let count = typed.count in omega arith

    few : image.stacks ≤ 64
    few = few-stacks g

    apart : (i : ℕ) (o : Object) → IsInside image s i o → Outside (stack_pointer n 1) o.place (length (object_values o))
    apart i o (inl (row, above, below)) = inr (omega arith)
    apart i o (inr (heap, above, below)) = inl (omega (arith, there, few))

    others : n ≢ s.current
    others e = let runs = typed.one in let stopped = rw e at empty in cc

    none : values_at s n ≡ []
    none = let e : (n == s.current) ≡ false = grind (arith, nat_tests, others) in rw (e, empty) refl

    at : (k : ℕ) → k < image.stacks → (b : Bool) → (k == n) ≡ b → StackHolds after s k (values_at s k)
    at k inside true e = let same : k ≡ n = grind (arith, nat_tests) in rw (same, none) (λ j v h. absurd (cc))
    at k inside false e =
        let differ : k ≢ n = grind (arith, nat_tests) in
        stack_kept g c k inside (⊎_elim (λ (l : k < n). inr (omega arith)) (λ (l : n ≤ k). inl (omega arith)) (cases_lt k n))
