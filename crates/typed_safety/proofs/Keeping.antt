-- Turns keep typed states, the layout of the heap with them.
use Rattle.std.proofs.Common.{◌≡◌, ◌≢◌, ◌⊎◌, inl, inr, ◌∙◌, sym, ap, subst, ℕ, Bool, true, Option, Some, None, refl, List, [], ◌∷◌, ◌++◌, length, slice_get, ⊎_elim}
use Rattle.device_model.specs.declared.events.Event.{Event}
use Rattle.ia32_code.specs.declared.instruction.Inst.{Inst}
use Rattle.object_layout.specs.Classes.{ShapesView}
use Rattle.tal_flow.specs.Rules.{next_address}
use Rattle.tal_image.specs.Image.{ImageParts}
use Rattle.tal_image.specs.Shown.{shown}
use Rattle.tal_checker.specs.Running.{RunsOn}
use Rattle.typed_machine.specs.Values.{Null, ObjectShape, all_objects}
use Rattle.typed_machine.specs.Stores.{Object, need}
use Rattle.typed_machine.specs.States.{State}
use Rattle.typed_machine.specs.Code.{inst_at}
use Rattle.typed_machine.specs.Effects.{Effect}
use Rattle.typed_machine.specs.Replies.{ReplyView, Replies, YieldsTo, Allocates, Collects}
use Rattle.typed_machine.specs.Placing.{Answer, Placed, Refused, Gaps, Legal, fresh_object, reply_to, allocated}
use Rattle.typed_machine.specs.Turns.{Turned, begun, comes_back, answered, TurnOf}
use Rattle.typed_machine.specs.Reaching.{Roots, rooted, live_in}
use Rattle.typed_machine.specs.Typing.{TypedAmong, Typed, BlocksLie, scope_of}
use Rattle.typed_safety.specs.Laws.{ImageLaws, CallTyped, EffectTyped, CallComesTo, AllocationTyped, HeapCallTyped, TurnTyped}
use Rattle.typed_safety.proofs.Instructions.{state-keeps}
use Rattle.typed_safety.proofs.Carrying.{EspRefersNot}
use Rattle.typed_safety.proofs.Living.{ReachIsLeast, live-least, typed-among}
use Rattle.typed_safety.proofs.Replying.{aside_typed, ReplyTyped, call-replies}
use Rattle.typed_safety.proofs.Turning.{TurnAmong, longer, turn-typed}
use Rattle.typed_safety.proofs.Staying.{Quiet, Allocation, turn-cases}
use Rattle.typed_safety.proofs.AfterReplies.{rooted-live, reached-after, placed-after}
use Rattle.typed_safety.proofs.Growing.{stood_stands}
use Rattle.typed_safety.proofs.Lying.{object_stays, blocks-fewer, blocks-grown}

-- two things that are there and are the same
same-thing : {A : Type 0} (x y : A) → Some x ≡ Some y → x ≡ y
same-thing x y e = cc

module _ (image : ImageParts) (rests : RunsOn image) (laws : ImageLaws image) where
  -- the instruction at the place of a typed state
  effect_at : (live : ℕ → Bool) (s : State) → TypedAmong image live s → (inst : Inst) (len : ℕ) → inst_at image s.thread.place ≡ Some (inst, len)
      → EffectTyped image live s (next_address s.thread.place len) (Effect image s inst len)
  effect_at live s t inst len here =
      let k = state-keeps image rests laws live s t in
      let both = same-thing (k.placed.inst, k.placed.len) (inst, len) (sym k.spelled ∙ here) in
      let same : k.placed.inst ≡ inst = ap (λ (x : Inst × ℕ). x.0) both in
      let long : k.placed.len ≡ len = ap (λ (x : Inst × ℕ). x.1) both in
      rw (same, long) at k.typed

  -- a call of the heap
  pub heap_call_typed : (live : ℕ → Bool) (s : State) → TypedAmong image live s → (next k : ℕ) (reply : ReplyView) → CallComesTo image s next k reply
      → HeapCallTyped image live s next reply
  heap_call_typed live s t next k reply c =
      let effect = effect_at live s t c.inst c.len c.here in
      let call : CallTyped (scope_of image live s) s (next_address s.thread.place c.len) k = rw c.calls at effect in
      let replies = call-replies image rests laws live s t next k (rw c.follows call) in
      finds reply (rw c.gives at replies)
    where
      finds : (reply : ReplyView) → ReplyTyped image live s next reply → HeapCallTyped image live s next reply
      finds (Replies n r) h = tt
      finds (YieldsTo to) h = tt
      finds (Allocates shape) h = h
      finds Collects h = h

-- what an allocation comes to
allocation_comes : (image : ImageParts) (answers : List Answer) (s : State) (r : Turned) (a : Allocation image answers s r)
    → (r.state ≡ comes_back (reply_to a.answer s) (next_address s.thread.place a.len) (allocated (shown image).shapes a.shape a.answer s))
    × (r.legal ≡ Legal (Gaps image (Roots image (next_address s.thread.place a.len) s) s) (need (shown image).shapes a.shape) a.answer)
allocation_comes image answers s r a =
    let is : answered image (next_address s.thread.place a.len) a.entry s a.shape (a.answer ∷ r.left) ≡ Some r = rw a.given at a.is in
    let same = sym (same-thing _ r is) in
    (ap (λ (x : Turned). x.state) same, ap (λ (x : Turned). x.legal) same)

-- ---- objects stay

-- an answer leaves each object as it is
allocated-stays : (v : ShapesView) (shape : ObjectShape) (answer : Answer) (s : State) (i : ℕ) (o : Object) → slice_get s.store i ≡ Some o
    → slice_get (allocated v shape answer s).store i ≡ Some o
allocated-stays v shape (Placed p) s i o e = stood_stands s.store (fresh_object v shape p ∷ []) i o e
allocated-stays v shape Refused s i o e = e

-- so does a turn, but for its values
pub turn-object-stays : (image : ImageParts) (events : List Event) (answers : List Answer) (s : State) (r : Turned) → TurnOf image events answers s ≡ Some r
    → (i : ℕ) (o : Object) → slice_get s.store i ≡ Some o → (p : Object) × (slice_get r.state.store i ≡ Some p) × (p.shape ≡ o.shape) × (p.place ≡ o.place)
turn-object-stays image events answers s r turn i o e = ⊎_elim
    (λ (q : Quiet answers (begun events s) r). object_stays s.store r.state.store q.stays i o e)
    (λ (a : Allocation image answers (begun events s) r).
    let comes = (allocation_comes image answers (begun events s) r a).0 in
    (o, ap (λ (x : State). slice_get x.store i) comes ∙ allocated-stays (shown image).shapes a.shape a.answer (begun events s) i o e, refl, refl))
    (rw turn at (turn-cases image events answers s))

-- ---- typed states

module _ (image : ImageParts) (rests : RunsOn image) (laws : ImageLaws image) (esp : EspRefersNot image) (reaches : ReachIsLeast) (events : List Event) (answers : List Answer)
    (s : State) (t : Typed image s) where
  -- what a run can come to before the turn
  abbrev live : ℕ → Bool
  live = live_in image s

  -- the state after the turn's events
  abbrev u : State
  u = begun events s

  among : TypedAmong image live s
  among = typed-among image reaches s esp all_objects t.among

  begun-among : TypedAmong image live u
  begun-among = aside_typed image live s _ _ s.ending among

  begun-typed : TypedAmong image all_objects u
  begun-typed = aside_typed image all_objects s _ _ s.ending t.among

  -- ---- an allocation

  module _ (r : Turned) (a : Allocation image answers u r) where
    -- where it comes back
    abbrev next : ℕ
    next = next_address u.thread.place a.len

    -- the state after an answer
    abbrev after : Answer → State
    after answer = comes_back (reply_to answer u) next (allocated (shown image).shapes a.shape answer u)

    abbrev legal_for : Answer → Bool
    legal_for answer = Legal (Gaps image (Roots image next u) u) (need (shown image).shapes a.shape) answer

    allocation : AllocationTyped image live u next a.shape
    allocation = heap_call_typed image rests laws live u begun-among next a.entry (Allocates a.shape)
        (record { inst = a.inst; len = a.len; here = a.here; calls = a.calls; follows = refl; gives = a.asks })

    rooted-lives : (i : ℕ) → rooted image next u i ≡ true → live i ≡ true
    rooted-lives = rooted-live image reaches live u begun-among allocation.type next allocation.awaited

    -- what the turn comes to
    comes : (r.state ≡ after a.answer) × (r.legal ≡ legal_for a.answer)
    comes = allocation_comes image answers u r a

    -- what a run can come to then
    after-lives : (answer : Answer) (i : ℕ) → live_in image (after answer) i ≡ true → (rooted image next u i ≡ true) ⊎ (i ≡ length s.store)
    after-lives (Placed p) i e = placed-after image reaches u begun-typed next a.shape p i e
    after-lives Refused i e = inl (reached-after image reaches u next Null (λ k f. cc) i e)

    -- where the blocks lie then
    after-lies : (answer : Answer) → legal_for answer ≡ true → BlocksLie image (live_in image (after answer)) (after answer).store
    after-lies (Placed p) legal = blocks-grown image u next a.shape p legal live t.heap rooted-lives (live_in image (after (Placed p))) (after-lives (Placed p))
    after-lies Refused legal = blocks-fewer image live (live_in image (after Refused)) s.store s.store (refl, refl)
        (λ i e. rooted-lives i (reached-after image reaches u next Null (λ k f. cc) i e)) t.heap

    -- so it is in the turn's state
    allocation_lives : (i : ℕ) → live_in image r.state i ≡ true → (live i ≡ true) ⊎ ((r.left ≢ answers) × (i ≡ length s.store))
    allocation_lives i e = ⊎_elim
        (λ (is : rooted image next u i ≡ true). inl (rooted-lives i is))
        (λ (new : i ≡ length s.store). inr (λ same. longer a.answer r.left (same ∙ a.given), new))
        (after-lives a.answer i (rw comes.0 at e))

    allocation_lies : r.legal ≡ true → BlocksLie image (live_in image r.state) r.state.store
    allocation_lies legal = subst (λ (x : State). BlocksLie image (live_in image x) x.store) (sym comes.0) (after-lies a.answer (sym comes.1 ∙ legal))

  -- ---- each turn

  module _ (r : Turned) (e : TurnOf image events answers s ≡ Some r) (legal : r.legal ≡ true) where
    -- a turn that takes no answer
    quiet-lives : Quiet answers u r → (i : ℕ) → live_in image r.state i ≡ true → live i ≡ true
    quiet-lives q =
        let h : TurnAmong image live answers u (Some r) = rw e at (turn-typed image rests laws esp live answers events s among) in
        live-least image reaches live r.state (h legal (λ other. absurd (other q.left)))

    cases : Quiet answers u r ⊎ Allocation image answers u r
    cases = rw e at (turn-cases image events answers s)

    -- what a run can come to
    pub turn-shrinks : (i : ℕ) → live_in image r.state i ≡ true → (live_in image s i ≡ true) ⊎ ((r.left ≢ answers) × (i ≡ length s.store))
    turn-shrinks i h = ⊎_elim
        (λ (q : Quiet answers u r). inl (quiet-lives q i h))
        (λ (a : Allocation image answers u r). allocation_lives r a i h)
        cases

    -- where the blocks lie
    turn-lies : BlocksLie image (live_in image r.state) r.state.store
    turn-lies = ⊎_elim
        (λ (q : Quiet answers u r). blocks-fewer image live (live_in image r.state) s.store r.state.store q.stays (quiet-lives q) t.heap)
        (λ (a : Allocation image answers u r). allocation_lies r a legal)
        cases

  -- a turn of a typed state
  pub turn-keeps : TurnTyped image answers (begun events s) (TurnOf image events answers s)
  turn-keeps = go (TurnOf image events answers s) refl (turn-typed image rests laws esp all_objects answers events s t.among)
    where
      go : (o : Option Turned) → TurnOf image events answers s ≡ o → TurnAmong image all_objects answers (begun events s) o → TurnTyped image answers (begun events s) o
      go None e h = h
      go (Some r) e h = λ legal. record { among = h legal (λ other. refl); heap = turn-lies r e legal }
