use Rattle.std.proofs.Common.{◌≡◌, ◌+◌, ◌<◌, ◌^◌, ◌++◌, length}
use Rattle.std.specs.String.{string_bytes}
use denote.Text.{Utf8}
use denote.Shadow.{shadow}
use Rattle.hex.specs.Hex.{encode_upper}
use Rattle.tal_listing.specs.Lines.{code_text}
use Rattle.tal_listing.proofs.lines.push_code.Given as goal

abbrev pub invariant-loop-inst : goal.invariant-loop-inst
invariant-loop-inst l = record {
  text : shadow (Utf8 l.left);
  written : string_bytes l.out ++ code_text l.at l.rest ≡ string_bytes l.fn.out ++ code_text l.fn.address l.fn.code;
  digits : l.left ≡ encode_upper l.rest;
  room : l.at + length l.rest < 2 ^ 32;
}

abbrev pub decreases-loop-inst : goal.decreases-loop-inst
decreases-loop-inst l = length l.rest
