use Rattle.std.proofs.Common.{[], sym, ap, ◌∙◌}
use Rattle.std.proofs.lemmas.List.{append-nil}
use Rattle.std.specs.Option.{option_map}
use Rattle.tal_code.specs.Holes.{spelled_as}
use Rattle.tal_code.proofs.Spellings.{SpelledAs, appended, none_for, refused, is_ok_of, spelled_some, words_within, meaningless, placeless, some_is_one}
use Rattle.tal_code.proofs.holes.spelled.Goals as goal

pub returns-in_err-inst-clause-spelling : goal.returns-in_err-inst-clause-spelling
returns-in_err-inst-clause-spelling c = c.from_residual.ensures ∙ sym (meaningless c.args.words (sym c.inst_of.ensures ∙ c.in_err-inst.was))

pub returns-then-is_err-clause-spelling : goal.returns-then-is_err-clause-spelling
returns-then-is_err-clause-spelling c =
    let means = sym c.inst_of.ensures ∙ c.in_ok-inst.was in
    let told = c.encode.ensures in
    sym (ap (option_map spelled_as) (none_for c.args.words c.in_ok-inst.inst means
    (refused c.encode.result c.in_ok-inst.inst c.new-bytes.result c.new-bytes.ensures (sym c.is_err.ensures.value ∙ c.if-is_err.true) told.none told.full told.spelling c.spelling_length.ensures)))

pub returns-in_err-places-clause-spelling : goal.returns-in_err-places-clause-spelling
returns-in_err-places-clause-spelling c =
    let means = sym c.inst_of.ensures ∙ c.in_ok-inst.was in
    let ok = is_ok_of c.encode.result _ (sym c.is_err.ensures.value ∙ c.if-is_err.false) c.encode.ensures.ok in
    let s : SpelledAs c.args.words c.encode.new.room = appended c.args.words c.in_ok-inst.inst c.new-bytes.result c.encode.new.room c.new-bytes.ensures means ok c.encode.ensures.spelling c.canonical_is_first.ensures in
    placeless c.whole_words.result _ _ _ (c.whole_words.ensures.spelled s.spelling [] s.filled (c.bytes.ensures.bytes ∙ s.text_is ∙ sym (append-nil _))) c.in_err-places.was

pub returns-clause-spelling : goal.returns-clause-spelling
returns-clause-spelling c =
    let means = sym c.inst_of.ensures ∙ c.in_ok-inst.was in
    let ok = is_ok_of c.encode.result _ (sym c.is_err.ensures.value ∙ c.if-is_err.false) c.encode.ensures.ok in
    let s : SpelledAs c.args.words c.encode.new.room = appended c.args.words c.in_ok-inst.inst c.new-bytes.result c.encode.new.room c.new-bytes.ensures means ok c.encode.ensures.spelling c.canonical_is_first.ensures in
    spelled_some c.args.words c.encode.new.room c.in_ok-places.places s
    (some_is_one _ _ (sym c.in_ok-places.was ∙ c.whole_words.ensures.spelled s.spelling [] s.filled (c.bytes.ensures.bytes ∙ s.text_is ∙ sym (append-nil _))))

pub returns-clause-within : goal.returns-clause-within
returns-clause-within c =
    let means = sym c.inst_of.ensures ∙ c.in_ok-inst.was in
    let ok = is_ok_of c.encode.result _ (sym c.is_err.ensures.value ∙ c.if-is_err.false) c.encode.ensures.ok in
    let s : SpelledAs c.args.words c.encode.new.room = appended c.args.words c.in_ok-inst.inst c.new-bytes.result c.encode.new.room c.new-bytes.ensures means ok c.encode.ensures.spelling c.canonical_is_first.ensures in
    words_within c.args.words c.encode.new.room c.in_ok-places.places s
    (some_is_one _ _ (sym c.in_ok-places.was ∙ c.whole_words.ensures.spelled s.spelling [] s.filled (c.bytes.ensures.bytes ∙ s.text_is ∙ sym (append-nil _))))
    c.any_word_fits.ensures
