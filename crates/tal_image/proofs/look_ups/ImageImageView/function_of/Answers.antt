use Rattle.std.proofs.Common.{◌≡◌, ◌<◌, ◌≤◌, ◌+◌, length, get_or, slice_get, sym, subst, ◌∙◌, Some, arith}
use Rattle.object_layout.specs.Areas.{code_start}
use Rattle.tal_image.specs.Image.{ImageParts}
use Rattle.tal_image.specs.Shown.{shown, spans}
use Rattle.tal_image.proofs.Finding.Indexes.{unowned-before, owner_there, owner_nowhere}
use Rattle.tal_image.proofs.look_ups.ImageImageView.function_of.Goals as goal

pub returns-in_err-offset : goal.returns-in_err-offset
unfolding shown
returns-in_err-offset c =
    let before : c.args.pc < code_start = omega (arith, c.in_err-offset.ensures) in
    c.from_residual.ensures ∙ sym (unowned-before code_start c.args.self.now.functions c.args.pc before)

pub returns-in_err-f : goal.returns-in_err-f
unfolding shown
returns-in_err-f c =
    let place : c.args.pc ≡ code_start + c.in_ok-offset.offset = omega (arith, c.in_ok-offset.ensures.0, c.in_ok-offset.ensures.1) in
    let past : length c.self.inside.owners.items ≤ c.in_ok-offset.offset = rw (← c.deref.ensures.value) c.in_err-f.ensures.lookup.3 in
    c.from_residual-in_err-f.ensures ∙ rw (← c.self.view_is) (sym (owner_nowhere c.self.inside c.self.invariant c.args.pc c.in_ok-offset.offset place past))

pub span-requires : goal.span-requires
span-requires c =
    let place : c.args.pc ≡ code_start + c.in_ok-offset.offset = omega (arith, c.in_ok-offset.ensures.0, c.in_ok-offset.ensures.1) in
    let within : c.in_ok-offset.offset < length c.self.inside.owners.items = rw (← c.deref.ensures.value) c.in_ok-f.ensures.lookup.3.0 in
    let is = subst (λ l. c.in_ok-f.f.now ≡ get_or l c.in_ok-offset.offset c.in_ok-f.f.now) c.deref.ensures.value c.in_ok-f.ensures.lookup.1 in
    subst (λ (i : ImageParts). c.in_ok-f.f.now < length i.functions) c.self.view_is (owner_there c.self.inside c.self.invariant c.args.pc c.in_ok-offset.offset place c.in_ok-f.f.now within is).0

pub returns : goal.returns
unfolding shown
returns c =
    let place : c.args.pc ≡ code_start + c.in_ok-offset.offset = omega (arith, c.in_ok-offset.ensures.0, c.in_ok-offset.ensures.1) in
    let within : c.in_ok-offset.offset < length c.self.inside.owners.items = rw (← c.deref.ensures.value) c.in_ok-f.ensures.lookup.3.0 in
    let is = subst (λ l. c.in_ok-f.f.now ≡ get_or l c.in_ok-offset.offset c.in_ok-f.f.now) c.deref.ensures.value c.in_ok-f.ensures.lookup.1 in
    let there = subst (λ (i : ImageParts). slice_get (spans code_start i.functions) c.in_ok-f.f.now ≡ Some c.span.result) (sym c.self.view_is) c.span.ensures in
    rw (← c.self.view_is) (sym ((owner_there c.self.inside c.self.invariant c.args.pc c.in_ok-offset.offset place c.in_ok-f.f.now within is).1 ∙ there))
