use Rattle.std.proofs.Common.{◌≡◌, ℕ, ◌+◌, ◌-◌, ◌++◌, length, drop, List, sym, ap, subst, ◌∙◌, arith}
use Rattle.std.specs.String.{string_bytes}
use Rattle.object_layout.specs.Areas.{code_start}
use Rattle.tal_image.specs.Shown.{spans}
use Rattle.hex.specs.Hex.{encode_upper}
use Rattle.tal_listing.specs.Listing.{size, functions_text, ListText}
use Rattle.tal_listing.proofs.Digits.{digits_are_text, cut_of_digits, front_of_digits, rest_of_digits}
use Rattle.tal_listing.proofs.FunctionLines.{HasFunctions, image_has_functions, few_functions, next_function, past_functions, function_is_written, functions_are_written}
use Rattle.tal_listing.proofs.functions.push_functions.Goals as goal

pub loop-function-init : goal.loop-function-init
unfolding ListText
loop-function-init c = record {
  text = c.utf8.digits;
  written = ap (λ (code : List ℕ). string_bytes c.args.out.now ++ functions_text 0 code (spans code_start c.args.image.now.functions)) c.code-rest.ensures.whole;
  digits = c.requires ∙ ap encode_upper (sym c.code-rest.ensures.whole);
  room = subst (λ (code : List ℕ). HasFunctions (length code) (spans code_start c.args.image.now.functions)) (sym c.code-rest.ensures.whole) (image_has_functions c.args.image.now c.formed.ensures);
}

pub overflow_sub-size : goal.overflow_sub-size
overflow_sub-size c = (next_function c.args.image.now c.loop-function.number (length c.loop-function.rest.now) c.in-Some.function c.loop-function.invariant.room c.in-Some.ensures).forward

pub split_at-requires : goal.split_at-requires
split_at-requires c = (next_function c.args.image.now c.loop-function.number (length c.loop-function.rest.now) c.in-Some.function c.loop-function.invariant.room c.in-Some.ensures).fits

pub split_at-requires-in-Some : goal.split_at-requires-in-Some
split_at-requires-in-Some c =
    let next = next_function c.args.image.now c.loop-function.number (length c.loop-function.rest.now) c.in-Some.function c.loop-function.invariant.room c.in-Some.ensures in
    cut_of_digits c.loop-function.left.now c.loop-function.rest.now (size c.in-Some.function) c.loop-function.invariant.digits next.fits

pub push_function-requires-clause-forward : goal.push_function-requires-clause-forward
push_function-requires-clause-forward c = (next_function c.args.image.now c.loop-function.number (length c.loop-function.rest.now) c.in-Some.function c.loop-function.invariant.room c.in-Some.ensures).forward

pub push_function-requires-clause-digits : goal.push_function-requires-clause-digits
push_function-requires-clause-digits c =
    front_of_digits _ _ c.loop-function.rest.now _ (size c.in-Some.function) c.loop-function.invariant.digits c.split_at-in-Some.ensures.front c.split_at.ensures.front

pub overflow_add-number : goal.overflow_add-number
overflow_add-number c =
    let next = next_function c.args.image.now c.loop-function.number (length c.loop-function.rest.now) c.in-Some.function c.loop-function.invariant.room c.in-Some.ensures in
    omega (arith, next.inside, few_functions c.args.image.now c.formed.ensures)

pub loop-function-smaller : goal.loop-function-smaller
loop-function-smaller c =
    let next = next_function c.args.image.now c.loop-function.number (length c.loop-function.rest.now) c.in-Some.function c.loop-function.invariant.room c.in-Some.ensures in
    omega (arith, next.inside)

pub loop-function-preserved : goal.loop-function-preserved
loop-function-preserved c =
    let image = c.args.image.now in
    let s = c.in-Some.function in
    let next = next_function image c.loop-function.number (length c.loop-function.rest.now) s c.loop-function.invariant.room c.in-Some.ensures in
    let digits = rest_of_digits _ _ c.loop-function.rest.now _ (size s) c.loop-function.invariant.digits c.split_at-in-Some.ensures.back c.split_at.ensures.back in
    let left : length c.loop-function.rest.now - size s ≡ length c.split_at.result.1.now = omega (arith, c.split_at.ensures.back_len) in
    record {
      text = digits_are_text _ _ digits;
      written = function_is_written _ _ _ c.loop-function.number s _ c.loop-function.rest.now _ _ c.split_at.ensures.front c.split_at.ensures.back c.in_ok-push_function.ensures
          (rw next.first at c.loop-function.invariant.written);
      digits = digits;
      room = subst (λ (n : ℕ). HasFunctions n (drop (c.loop-function.number + 1) (spans code_start image.functions))) left next.room;
    }

pub returns : goal.returns
returns c =
    let none = past_functions c.args.image.now c.loop-function.number c.in_default.ensures in
    functions_are_written _ _ c.loop-function.number c.loop-function.rest.now (rw none at c.loop-function.invariant.written)
