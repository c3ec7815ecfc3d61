-- Calls of the Nucleus keep typing.
use Rattle.std.proofs.Common.{◌≡◌, ◌≢◌, ◌⊎◌, ◌∙◌, sym, ap, ◌<◌, ◌+◌, ◌%◌, ◌^◌, ◌==◌, ◌&&◌, ◌||◌, not, ℕ, zero, suc, Bool, true, false, if◌then◌else◌, Option, Some, None, is_some, arith, refl, List, [], ◌∷◌, ◌++◌, length, slice_get, slice_set, eq-eqb, ⊎_elim}
use Rattle.std.specs.Option.{option_map}
use Rattle.std.proofs.lemmas.Bool.{and_parts}
use Rattle.std.proofs.lemmas.Bool.Decides.{nat_tests}
use Rattle.std.proofs.lemmas.List.{length-set}
use Rattle.std.proofs.lemmas.Option.{slice_get_within}
use Rattle.ia32_code.specs.declared.instruction.Reg.TheVariants.{Eax, Ecx}
use Rattle.device_model.specs.History.{History, Item, Wrote, Took, Drew}
use Rattle.tal_types.specs.declared.types.Ty.{Ty}
use Rattle.tal_types.specs.declared.types.Ty.TheVariants as ty
use Rattle.tal_flow.specs.declared.calls.Arguments.{Arguments}
use Rattle.tal_flow.specs.declared.calls.Arguments.TheVariants.{Table, DescriptorAndNumber, Nothing, OneNumber, TwoNumbers}
use Rattle.tal_flow.specs.declared.calls.Called.TheVariants.{Gives}
use Rattle.tal_flow.specs.Calls.{nucleus_arguments, entry_gives}
use Rattle.tal_image.specs.Image.{ImageParts}
use Rattle.tal_image.specs.Shown.{shown}
use Rattle.tal_checker.specs.Running.{RunsOn}
use Rattle.typed_machine.specs.declared.ending.Ending.{Ending}
use Rattle.object_layout.specs.declared.rows.KindRow.{KindRow}
use Rattle.object_layout.specs.Classes.{ShapesView, Below, Element}
use Rattle.typed_machine.specs.Values.{Value, Number, Null, Ref, Tab, Desc, ObjectShape, InstanceOf, ArrayOf, fits_among}
use Rattle.typed_machine.specs.States.{State, Stack, EmptyStack, RunningStack, YieldedStack, InterruptedStack, fresh_thread}
use Rattle.typed_machine.specs.Operands.{number_in}
use Rattle.typed_machine.specs.Switches.{runs, switched}
use Rattle.typed_machine.specs.Replies.{ReplyView, Replies, YieldsTo, Allocates, Collects, alloc_object, alloc_array, garbage_collect, is_stack, is_application, yield_to, emptied, reset_stack, get_stack_state, current_stack, happened, vga_text_write, code_taken, try_read_keyboard, count_items, start_timer, send_eoi, by_nothing, by_number, by_numbers, Reply}
use Rattle.typed_machine.specs.Frames.{Scope, Awaits, fits_in}
use Rattle.typed_machine.specs.Typing.{TypedAmong, scope_of}
use Rattle.typed_safety.specs.Laws.{ImageLaws, CallTyped, AllocationTyped}
use Rattle.typed_safety.proofs.Values.{number-num}
use Rattle.typed_safety.proofs.Resuming.{replied-fits}
use Rattle.typed_safety.proofs.Switching.{SomeTyped, set-there, set-read, switch-typed}

-- ---- arguments

-- what the entries give that ask for nothing, for a number, or for two
gives-nothing : (t u r : Ty) → entry_gives Nothing t u ≡ Gives r → r ≡ ty.Num
gives-nothing t u r h = grind arith

gives-one : (t u r : Ty) → entry_gives OneNumber t u ≡ Gives r → (t ≡ ty.Num) × (r ≡ ty.Num)
gives-one t u r h = grind arith

gives-two : (t u r : Ty) → entry_gives TwoNumbers t u ≡ Gives r → (t ≡ ty.Num) × (u ≡ ty.Num) × (r ≡ ty.Num)
gives-two t u r h = grind arith

-- what they give that ask for a class's table, or for a descriptor and a number
gives-object : (t u r : Ty) → entry_gives Table t u ≡ Gives r → (c : ℕ) × (t ≡ ty.Tab c) × (r ≡ ty.Ref c)
gives-object (ty.Tab c) u r h = (c, refl, cc)
gives-object t u r h = absurd (cc)

gives-array : (t u r : Ty) → entry_gives DescriptorAndNumber t u ≡ Gives r → (k : ℕ) × (t ≡ ty.Desc k) × (u ≡ ty.Num) × (r ≡ ty.ArrRef k)
gives-array (ty.Desc k) ty.Num r h = (k, refl, refl, cc)
gives-array (ty.Desc k) u r h = absurd (cc)
gives-array t u r h = absurd (cc)

-- what an entry gives, by its arguments
gives-by : {l : Scope} {s : State} {next k : ℕ} (c : CallTyped l s next k) (a : Arguments) → slice_get nucleus_arguments k ≡ Some a
    → entry_gives a c.eax c.ecx ≡ Gives c.reply
gives-by c a e = let same : c.arguments ≡ a = (let x : Some c.arguments ≡ Some a = sym c.entry ∙ e in cc) in rw same at c.gives

-- where it gives a number, the caller awaits one
awaits-number : {l : Scope} {s : State} {next k : ℕ} (c : CallTyped l s next k) → c.reply ≡ ty.Num → Awaits l ty.Num next s.values
awaits-number c e = rw e at c.awaited

-- a value of the type is the number that is asked for
holds-number : (l : Scope) (w : Value) (t : Ty) → fits_in l w t ≡ true → t ≡ ty.Num → (n : ℕ) × (number_in w ≡ Some n)
unfolding fits_among number_in
holds-number l (Number n) t f e = (n, refl)
holds-number l w t f e = absurd (grind arith)

-- a value of that type is a class's table, of a class below it
holds-table : (l : Scope) (w : Value) (c : ℕ) → fits_in l w (ty.Tab c) ≡ true → (d : ℕ) × (w ≡ Tab d) × (Below (shown l.image).shapes d c ≡ true)
unfolding fits_among
holds-table l (Tab d) c f = (d, refl, f)
holds-table l w c f = absurd (grind arith)

-- or a kind's descriptor
holds-descriptor : (l : Scope) (w : Value) (k : ℕ) → fits_in l w (ty.Desc k) ≡ true → (w ≡ Desc k) × (is_some (Element (shown l.image).shapes k) ≡ true)
unfolding fits_among
holds-descriptor l (Desc j) k f = let p = and_parts (j == k) _ f in let same : j ≡ k = grind (arith, nat_tests) in (ap Desc same, p.1)
holds-descriptor l w k f = absurd (grind arith)

-- a class below another is there
below-there : (v : ShapesView) (d c : ℕ) → Below v d c ≡ true → d < length v.classes
unfolding Below
below-there v d c h = grind (arith, nat_tests)

-- a kind of elements is there
element_there : (v : ShapesView) (k : ℕ) → is_some (Element v k) ≡ true → k < length v.kinds
unfolding Element
element_there v k h = go (slice_get v.kinds k) refl h
  where
    go : (o : Option KindRow) → slice_get v.kinds k ≡ o → is_some (option_map (λ (row : KindRow). row.element) o) ≡ true → k < length v.kinds
    go None e f = absurd (cc)
    go (Some row) e f = slice_get_within v.kinds k row e

-- ---- what a call comes to

-- typing looks at no devices, no turns and no end
pub aside_typed : (image : ImageParts) (live : ℕ → Bool) (s : State) (d : History) (n : ℕ) (e : Option Ending) → TypedAmong image live s
    → TypedAmong image live (record s { devices = d; turns = n; ending = e })
aside_typed image live s d n e t =
    record { thread = t.thread; others = t.others; one = t.one; only = t.only; kernel = t.kernel; count = t.count; statics = t.statics; store = t.store }

-- null has the type of a reference
null-fits : (l : Scope) (c : ℕ) → fits_in l Null (ty.Ref c) ≡ true
unfolding fits_among
null-fits l c = refl

null-array : (l : Scope) (k : ℕ) → fits_in l Null (ty.ArrRef k) ≡ true
unfolding fits_among
null-array l k = refl

-- the state that a reply leads to is typed, where the call comes back to `next`
abbrev pub ReplyTyped : ImageParts → (ℕ → Bool) → State → ℕ → ReplyView → Type 0
ReplyTyped image live s next (Replies n t) = TypedAmong image live (runs (fresh_thread (Number n) next) t.values t)
ReplyTyped image live s next (Allocates shape) = AllocationTyped image live s next shape
ReplyTyped image live s next Collects = Awaits (scope_of image live s) ty.Num next s.values
ReplyTyped image live s next (YieldsTo to) = SomeTyped image live (switched image to (Number (65536 + s.current)) (YieldedStack next s.values) s)

-- there is a reply, and it is so
abbrev pub SomeReplyTyped : ImageParts → (ℕ → Bool) → State → ℕ → Option ReplyView → Type 0
SomeReplyTyped image live s next None = ⊥
SomeReplyTyped image live s next (Some r) = ReplyTyped image live s next r

-- that there is one is a part of it
pub some-reply : (image : ImageParts) (live : ℕ → Bool) (s : State) (next : ℕ) (o : Option ReplyView) → SomeReplyTyped image live s next o → (reply : ReplyView) × (o ≡ Some reply)
some-reply image live s next None h = absurd h
some-reply image live s next (Some reply) h = (reply, refl)

-- a number at which a stack stands is below their count
stack_within : (ks : List Stack) (n : ℕ) → is_some (slice_get ks n) ≡ true → n < length ks
stack_within ks n h = go (slice_get ks n) refl h
  where
    go : (o : Option Stack) → slice_get ks n ≡ o → is_some o ≡ true → n < length ks
    go None e f = absurd (cc)
    go (Some k) e f = slice_get_within ks n k e

module _ (image : ImageParts) where
  -- an object of a class that lives has the type of each class above
  instance-fits : (among : ℕ → Bool) (os : List ObjectShape) (i d c : ℕ) → among i ≡ true → slice_get os i ≡ Some (InstanceOf d) → Below (shown image).shapes d c ≡ true
      → fits_among (shown image) among os (Ref i) (ty.Ref c) ≡ true
  unfolding fits_among
  instance-fits among os i d c lives is below = rw (lives, is) below

  -- an array has that of its kind
  array-fits : (among : ℕ → Bool) (os : List ObjectShape) (i k n : ℕ) → among i ≡ true → slice_get os i ≡ Some (ArrayOf k n)
      → fits_among (shown image) among os (Ref i) (ty.ArrRef k) ≡ true
  unfolding fits_among
  array-fits among os i k n lives is = rw (lives, is) (eq-eqb k k refl)

-- the number that a value is
number-value : (w : Value) (n : ℕ) → number_in w ≡ Some n → w ≡ Number n
unfolding number_in
number-value (Number m) n e = cc
number-value w n e = absurd (cc)

module _ (image : ImageParts) (rests : RunsOn image) (laws : ImageLaws image) (live : ℕ → Bool) (s : State) (t : TypedAmong image live s) (next : ℕ) where
  -- a number is replied in a typed state that awaits it
  number-typed : (n : ℕ) (r : State) → TypedAmong image live r → Awaits (scope_of image live r) ty.Num next r.values → ReplyTyped image live s next (Replies n r)
  number-typed n r h a = record {
    thread = replied-fits (scope_of image live r) laws.classes ty.Num (Number n) next r.values a (number-num (shown image) live _ n);
    others = h.others;
    one = h.one;
    only = h.only;
    kernel = h.kernel;
    count = h.count;
    statics = h.statics;
    store = h.store;
  }

  module _ (a : Awaits (scope_of image live s) ty.Num next s.values) where
    -- nothing else changes
    same-typed : (n : ℕ) → ReplyTyped image live s next (Replies n s)
    same-typed n = number-typed n s t a

    -- something happens to the devices
    happened-typed : (n : ℕ) (items : List Item) → ReplyTyped image live s next (Replies n (happened items s))
    happened-typed n items = number-typed n (happened items s) (aside_typed image live s (items ++ s.devices) s.turns s.ending t) a

    -- a yield, which is refused or is a switch
    yield_typed : (n : ℕ) → ReplyTyped image live s next (yield_to n s)
    yield_typed n = there (not (is_stack n s) || n == s.current) refl
      where
        apart : (b : Bool) → (is_application s.current && is_application n) ≡ b → (not (is_stack n s) || n == s.current) ≡ false
            → ReplyTyped image live s next (if b then Replies 2 s else YieldsTo n)
        apart true e f = same-typed 2
        apart false e f =
            let few = stack_within s.stacks n (grind arith) in
            let count = t.count in
            let kept : (n ≡ 0) ⊎ (s.current ≡ 0) = grind (arith, nat_tests) in
            switch-typed image rests laws live s t (YieldedStack next s.values) n (65536 + s.current) a (λ g. cc) (λ g. absurd (grind (arith, nat_tests)))
            (omega arith) kept

        there : (b : Bool) → (not (is_stack n s) || n == s.current) ≡ b
            → ReplyTyped image live s next (if b then Replies 1 s else if is_application s.current && is_application n then Replies 2 s else YieldsTo n)
        there true e = same-typed 1
        there false e = apart (is_application s.current && is_application n) refl e

    -- a stack that does not run becomes empty
    empties_typed : (n : ℕ) (stack : Stack) → s.current ≡ 0 → slice_get s.stacks n ≡ Some stack → stack ≢ RunningStack
        → ReplyTyped image live s next (Replies 0 (record s { stacks = slice_set s.stacks n EmptyStack }))
    empties_typed n stack kernel here other =
        let away : n ≢ s.current = λ e. other (let x : Some stack ≡ Some RunningStack = sym here ∙ (ap (slice_get s.stacks) e ∙ t.one) in cc) in
        number-typed 0 (record s { stacks = slice_set s.stacks n EmptyStack })
        (record {
          thread = t.thread;
          others = λ i k h. ⊎_elim
              (λ (e : (i ≡ n) × (k ≡ EmptyStack)). rw e.1 tt)
              (λ (e : slice_get s.stacks i ≡ Some k). t.others i k e)
              (set-read s.stacks n i EmptyStack k h);
          one = set-there s.stacks n s.current EmptyStack away ∙ t.one;
          only = λ i h. ⊎_elim
              (λ (e : (i ≡ n) × (RunningStack ≡ EmptyStack)). absurd (let x = e.1 in cc))
              (λ (e : slice_get s.stacks i ≡ Some RunningStack). t.only i e)
              (set-read s.stacks n i EmptyStack RunningStack h);
          kernel = rw kernel tt;
          count = length-set s.stacks n EmptyStack ∙ t.count;
          statics = t.statics;
          store = t.store;
        })
        a

    -- a reset
    reset-typed : (n : ℕ) → ReplyTyped image live s next (reset_stack n s)
    reset-typed n = caller (is_application s.current) refl
      where
        named : (o : Option Stack) → slice_get s.stacks n ≡ o → s.current ≡ 0 → ReplyTyped image live s next (emptied n s o)
        named None e kernel = same-typed 1
        named (Some RunningStack) e kernel = same-typed 1
        named (Some EmptyStack) e kernel = empties_typed n EmptyStack kernel e (λ f. cc)
        named (Some (YieldedStack place values)) e kernel = empties_typed n (YieldedStack place values) kernel e (λ f. cc)
        named (Some (InterruptedStack thread values)) e kernel = empties_typed n (InterruptedStack thread values) kernel e (λ f. cc)

        caller : (b : Bool) → is_application s.current ≡ b → ReplyTyped image live s next (if b then Replies 2 s else emptied n s (slice_get s.stacks n))
        caller true e = same-typed 2
        caller false e = named (slice_get s.stacks n) refl (grind (arith, nat_tests))

    -- what a call asks of the devices is done, or is refused and changes nothing
    done_typed : (b : Bool) (items : List Item) → ReplyTyped image live s next (if b then Replies 0 (happened items s) else Replies 1 s)
    done_typed true items = happened-typed 0 items
    done_typed false items = same-typed 1

    -- a code is taken, if there is one
    code-typed : (o : Option ℕ) → ReplyTyped image live s next (code_taken o s)
    code-typed None = same-typed 256
    code-typed (Some code) = happened-typed code (Took ∷ [])

  -- ---- all entries

  -- an entry that asks for nothing
  nothing-typed : (k : ℕ) (reply : State → ReplyView) → CallTyped (scope_of image live s) s next k → slice_get nucleus_arguments k ≡ Some Nothing
      → (Awaits (scope_of image live s) ty.Num next s.values → ReplyTyped image live s next (reply s)) → SomeReplyTyped image live s next (by_nothing reply s)
  nothing-typed k reply c e typed =
      let gives = gives-nothing c.eax c.ecx c.reply (gives-by c Nothing e) in
      typed (awaits-number c gives)

  -- one that asks for a number
  one-typed : (k : ℕ) (reply : ℕ → State → ReplyView) → CallTyped (scope_of image live s) s next k → slice_get nucleus_arguments k ≡ Some OneNumber
      → (Awaits (scope_of image live s) ty.Num next s.values → (n : ℕ) → ReplyTyped image live s next (reply n s)) → SomeReplyTyped image live s next (by_number reply s)
  one-typed k reply c e typed =
      let gives = gives-one c.eax c.ecx c.reply (gives-by c OneNumber e) in
      let eax = holds-number (scope_of image live s) (s.thread.regs Eax) c.eax c.eax_fits gives.0 in
      rw eax.1 (typed (awaits-number c gives.1) eax.0)

  -- one that asks for two
  two-typed : (k : ℕ) (reply : ℕ → ℕ → State → ReplyView) → CallTyped (scope_of image live s) s next k → slice_get nucleus_arguments k ≡ Some TwoNumbers
      → (Awaits (scope_of image live s) ty.Num next s.values → (n m : ℕ) → ReplyTyped image live s next (reply n m s))
      → SomeReplyTyped image live s next (by_numbers reply s)
  two-typed k reply c e typed =
      let gives = gives-two c.eax c.ecx c.reply (gives-by c TwoNumbers e) in
      let eax = holds-number (scope_of image live s) (s.thread.regs Eax) c.eax c.eax_fits gives.0 in
      let ecx = holds-number (scope_of image live s) (s.thread.regs Ecx) c.ecx c.ecx_fits gives.1 in
      rw (eax.1, ecx.1) (typed (awaits-number c gives.2) eax.0 ecx.0)

  -- an object of the class whose table is in EAX
  object_typed : CallTyped (scope_of image live s) s next 0 → SomeReplyTyped image live s next (alloc_object s)
  unfolding nucleus_arguments
  object_typed c =
      let gives = gives-object c.eax c.ecx c.reply (gives-by c Table refl) in
      let eax = holds-table (scope_of image live s) (s.thread.regs Eax) gives.0 (rw gives.1 at c.eax_fits) in
      rw eax.1 (record {
        is_shape = below-there (shown image).shapes eax.0 gives.0 eax.2;
        type = ty.Ref gives.0;
        awaited = rw gives.2 at c.awaited;
        null = λ l. null-fits l gives.0;
        object = λ among os i lives is. instance-fits image among os i eax.0 gives.0 lives is eax.2;
      })

  -- an array of the kind whose descriptor is in EAX
  array-typed : CallTyped (scope_of image live s) s next 1 → SomeReplyTyped image live s next (alloc_array s)
  unfolding nucleus_arguments
  array-typed c =
      let gives = gives-array c.eax c.ecx c.reply (gives-by c DescriptorAndNumber refl) in
      let eax = holds-descriptor (scope_of image live s) (s.thread.regs Eax) gives.0 (rw gives.1 at c.eax_fits) in
      let ecx = holds-number (scope_of image live s) (s.thread.regs Ecx) c.ecx c.ecx_fits gives.2 in
      let length = number-value (s.thread.regs Ecx) ecx.0 ecx.1 in
      rw (eax.0, length) (record {
        is_shape = element_there (shown image).shapes gives.0 eax.1;
        type = ty.ArrRef gives.0;
        awaited = rw gives.3 at c.awaited;
        null = λ l. null-array l gives.0;
        object = λ among os i lives is. array-fits image among os i gives.0 ecx.0 lives is;
      })

  -- each entry behind those of the heap
  behind-heap : (k : ℕ) → CallTyped (scope_of image live s) s next (suc (suc (suc k))) → SomeReplyTyped image live s next (Reply (suc (suc (suc k))) s)
  unfolding Reply nucleus_arguments
  behind-heap zero c = one-typed 3 yield_to c refl yield_typed
  behind-heap (suc zero) c = one-typed 4 get_stack_state c refl (λ a n. same-typed a _)
  behind-heap (suc (suc zero)) c = one-typed 5 reset_stack c refl reset-typed
  behind-heap (suc (suc (suc zero))) c = two-typed 6 vga_text_write c refl (λ a n m. done_typed a _ (Drew n (m % 2 ^ 16) ∷ []))
  behind-heap (suc (suc (suc (suc zero)))) c = nothing-typed 7 try_read_keyboard c refl (λ a. code-typed a _)
  behind-heap (suc (suc (suc (suc (suc zero))))) c = one-typed 8 start_timer c refl (λ a n. done_typed a _ (count_items n))
  behind-heap (suc (suc (suc (suc (suc (suc zero)))))) c = nothing-typed 9 send_eoi c refl (λ a. done_typed a _ (Wrote 0x20 0x20 ∷ []))
  behind-heap (suc (suc (suc (suc (suc (suc (suc zero))))))) c = nothing-typed 10 current_stack c refl (λ a. same-typed a _)
  behind-heap (suc (suc (suc (suc (suc (suc (suc (suc k)))))))) c = absurd (let x = c.entry in cc)

  -- each entry
  pub call-replies : (k : ℕ) → CallTyped (scope_of image live s) s next k → SomeReplyTyped image live s next (Reply k s)
  unfolding Reply nucleus_arguments
  call-replies zero c = object_typed c
  call-replies (suc zero) c = array-typed c
  call-replies (suc (suc zero)) c = nothing-typed 2 garbage_collect c refl (λ a. a)
  call-replies (suc (suc (suc k))) c = behind-heap k c
