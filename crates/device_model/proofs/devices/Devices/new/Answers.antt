use Rattle.std.proofs.Common.{refl, ◌≡◌, [], rules}
use Rattle.std.specs.Prelude.{replicate}
use Rattle.device_model.proofs.Steps.{first_of}
use Rattle.device_model.proofs.devices.Devices.new.Goals as goal

pub returns : goal.returns
returns c =
    let empty : c.in_ok-keyboard.keyboard.items ≡ [] = search rules in
    let full : c.in_ok-cells.cells.items ≡ replicate 2000 0x0720 = search rules in
    rw empty (first_of 2000 c.in_ok-cells.cells.items refl full)
