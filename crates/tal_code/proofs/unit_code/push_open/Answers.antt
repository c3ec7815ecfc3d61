use Rattle.std.proofs.Common.{◌≡◌, ◌++◌, length, sym, ap, ◌∙◌}
use Rattle.tal_code.proofs.Zeroes.{whole, opened}
use Rattle.tal_code.proofs.unit_code.push_open.Goals as goal

pub returns : goal.returns
returns c =
    let old = c.args.code.now.items in
    let put : c.extend_from_slice.new.self.items ≡ old ++ c.args.holed.now.bytes = c.in_ok-extend_from_slice.ensures.items ∙ ap (λ bytes. old ++ bytes) c.bytes.ensures.bytes in
    let at : c.len-start.result ≡ length old = search in
    let long : length c.clear_hole-2.new.code ≡ c.extend_from_slice.new.self.len = search in
    whole c.extend_from_slice.new.self.len c.clear_hole-2.new.code c.extend_from_slice.new.self.items long
    ∙ opened old c.as_mut_slice-bytes.result.now c.clear_hole.new.code c.clear_hole-2.new.code c.len-start.result c.args.holed.now (c.as_mut_slice-bytes.ensures.value ∙ put) at c.clear_hole.ensures.bytes c.clear_hole-2.ensures.bytes
