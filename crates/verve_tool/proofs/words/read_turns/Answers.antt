use Rattle.std.proofs.Common.{◌≡◌, sym, ◌∙◌, arith}
use Rattle.std.proofs.lemmas.Fmt.{parse-decimal}
use Rattle.verve_tool.proofs.WordLemmas.{no_err, same_ok, told_apart, told_same}
use Rattle.verve_tool.proofs.words.read_turns.Goals as goal
use Rattle.verve_tool.proofs.words.read_turns.Goals.{then-number-eq0-via-then-number-eq0, then-number-eq0-via-else-number-eq0+then-number-most}
use Rattle.verve_tool.proofs.words.read_turns.Goals.{then-number-eq0-via-else-number-eq0+else-number-most+then-ne}

pub returns-in_default : goal.returns-in_default
returns-in_default c n low high e =
    no_err _ n _ (parse-decimal 32 n c.args.word.now _ (omega arith) (omega arith) e c.parse.ensures.value.0) c.in_default.is

pub returns-then-number-eq0 : goal.returns-then-number-eq0
returns-then-number-eq0 c n low high e =
    let same : c.in-Ok.number ≡ n = same_ok _ _ _ c.in-Ok.is (parse-decimal 32 n c.args.word.now _ (omega arith) (omega arith) e c.parse.ensures.value.0) in
    elim c.then-number-eq0.branch [
      | then-number-eq0-via-then-number-eq0 w ↦ omega (arith, w.if-number-eq0.true, same)
      | then-number-eq0-via-else-number-eq0+then-number-most w ↦ omega (arith, w.if-number-most.true, same)
      | then-number-eq0-via-else-number-eq0+else-number-most+then-ne w ↦
          told_apart _ _ _ (w.format.ensures.text ∙ rw same (sym e)) w.if-ne.true w.ne.ensures
    ]

pub returns : goal.returns
returns c = (
  sym (told_same _ _ _ c.if-ne.false c.ne.ensures) ∙ c.format.ensures.text,
  omega (arith, c.if-number-eq0.false),
  omega (arith, c.if-number-most.false),
)
