use Rattle.std.proofs.Common.{◌≡◌, refl, false, true, nat_eq, Some, None, ap, sym, ◌∙◌, arith}
use Rattle.std.proofs.lemmas.Bool.Decides.{nat_tests}
use Rattle.std.specs.Option.{option_and_then}
use Rattle.object_layout.specs.Areas.{code_start}
use Rattle.tal_image.specs.Shown.{shown}
use Rattle.tal_image.proofs.Finding.KeptRows.{have_bytes}
use Rattle.tal_image.proofs.Finding.Indexes.{begun, begun_by-owner}
use Rattle.tal_image.proofs.look_ups.ImageImageView.function_at.Goals as goal

pub returns-in_err-span : goal.returns-in_err-span
unfolding shown
returns-in_err-span c =
    let i = c.args.self.now in
    c.from_residual.ensures ∙ sym (begun_by-owner code_start i.functions c.args.address (have_bytes i c.formed.ensures) ∙ ap (option_and_then (begun c.args.address)) (sym c.in_err-span.ensures))

pub returns-then-span-address : goal.returns-then-span-address
unfolding shown
returns-then-span-address c =
    let i = c.args.self.now in
    let hit : nat_eq c.in_ok-span.span.start c.args.address ≡ true = grind (arith, nat_tests, c.if-span-address.true) in
    let found : begun c.args.address c.in_ok-span.span ≡ Some c.in_ok-span.span.sig = rw hit refl in
    sym (begun_by-owner code_start i.functions c.args.address (have_bytes i c.formed.ensures) ∙ ap (option_and_then (begun c.args.address)) (sym c.in_ok-span.ensures) ∙ found)

pub returns-else-span-address : goal.returns-else-span-address
unfolding shown
returns-else-span-address c =
    let i = c.args.self.now in
    let miss : nat_eq c.in_ok-span.span.start c.args.address ≡ false = grind (arith, nat_tests, c.if-span-address.false) in
    let found : begun c.args.address c.in_ok-span.span ≡ None = rw miss refl in
    sym (begun_by-owner code_start i.functions c.args.address (have_bytes i c.formed.ensures) ∙ ap (option_and_then (begun c.args.address)) (sym c.in_ok-span.ensures) ∙ found)
