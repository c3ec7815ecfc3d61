use Rattle.std.proofs.Common.{◌≡◌, ◌-◌, ◌++◌, length, drop}
use Rattle.std.specs.String.{string_bytes}
use denote.Text.{Utf8}
use denote.Shadow.{shadow}
use Rattle.hex.specs.Hex.{encode_upper}
use Rattle.object_layout.specs.Areas.{code_start}
use Rattle.tal_image.specs.Shown.{spans}
use Rattle.tal_listing.specs.Listing.{functions_text, ListText}
use Rattle.tal_listing.proofs.FunctionLines.{HasFunctions}
use Rattle.tal_listing.proofs.functions.push_functions.Given as goal

abbrev pub invariant-loop-function : goal.invariant-loop-function
invariant-loop-function l = record {
  text : shadow (Utf8 l.left);
  written : string_bytes l.out ++ functions_text l.number l.rest (drop l.number (spans code_start l.image.functions)) ≡ string_bytes l.fn.out ++ ListText l.image;
  digits : l.left ≡ encode_upper l.rest;
  room : HasFunctions (length l.rest) (drop l.number (spans code_start l.image.functions));
}

abbrev pub decreases-loop-function : goal.decreases-loop-function
decreases-loop-function l = length (spans code_start l.image.functions) - l.number
