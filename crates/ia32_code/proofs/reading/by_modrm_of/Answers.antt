use Rattle.std.proofs.Common.{◌≡◌, ◌-◌, ◌<◌, ◌≤◌, ℕ, List, [], ◌∷◌, length, get_or, take, drop, Option, Err, refl, sym, ap, ◌∙◌, arith}
use Rattle.std.proofs.lemmas.List.{take_all}
use Rattle.ia32_code.specs.declared.row.Row.{Row}
use Rattle.ia32_code.specs.declared.row.ModRm.{ModRm}
use Rattle.ia32_code.specs.declared.row.ModRm.TheVariants.{Absent}
use Rattle.ia32_code.specs.declared.reading.Stop.TheVariants.{Short}
use Rattle.ia32_code.specs.Table.{line}
use Rattle.ia32_code.specs.Reading.{CodeReader, seq, byte_at, digit_at, row_at, by_modrm_at}
use Rattle.ia32_code.proofs.reading.by_modrm_of.Goals as goal

-- where a ModRM byte stands, it leaves the row
present : (modrm : ModRm) (row : Row) (bytes : List ℕ) → (modrm ≡ Absent → ⊥) → by_modrm_at modrm row bytes ≡ seq byte_at (λ m. digit_at (row_at modrm row m) m) bytes
unfolding by_modrm_at
present Absent row bytes n = absurd (n refl)
present _ row bytes n = refl

-- no bytes are too few
too_few : {A : Type 0} (f : ℕ → CodeReader A) (bytes : List ℕ) → length bytes < 1 → seq byte_at f bytes ≡ Err Short
too_few f [] h = refl
too_few f (b ∷ bytes) h = absurd (omega arith)

-- and one is enough
one_byte : {A : Type 0} (f : ℕ → CodeReader A) (bytes : List ℕ) → 1 ≤ length bytes → seq byte_at f bytes ≡ f (get_or bytes 0 0) (take (length bytes - 1) (drop 1 bytes))
one_byte f [] h = absurd (omega arith)
one_byte f (b ∷ bytes) h = ap (λ (t : List ℕ). f b t) (sym (take_all (length (b ∷ bytes) - 1) bytes (omega arith)))

pub returns-in-Absent : goal.returns-in-Absent
unfolding by_modrm_at
returns-in-Absent c = rw (sym c.encoding_of.ensures.modrm ∙ c.in-Absent.is) c.end_of.ensures

pub returns-in_default-bytes : goal.returns-in_default-bytes
returns-in_default-bytes c =
    present (line c.args.row).modrm c.args.row c.args.bytes.now (λ e. c.in_default.not-Absent (c.encoding_of.ensures.modrm ∙ e))
    ∙ too_few (λ m. digit_at (row_at (line c.args.row).modrm c.args.row m) m) c.args.bytes.now c.in_default-bytes.len_below

pub returns-in-Some : goal.returns-in-Some
unfolding digit_at
returns-in-Some c =
    let m = get_or c.args.bytes.now 0 0 in
    let leaves = sym c.in-Some.is ∙ c.row_at.ensures in
    let e = present (line c.args.row).modrm c.args.row c.args.bytes.now (λ e. c.in_default.not-Absent (c.encoding_of.ensures.modrm ∙ e))
    ∙ one_byte (λ m. digit_at (row_at (line c.args.row).modrm c.args.row m) m) c.args.bytes.now c.in-len1-up.len_at_least
    ∙ ap (λ (o : Option Row). digit_at o m (take (length c.args.bytes.now - 1) (drop 1 c.args.bytes.now))) (sym leaves) in
    rw e c.modrm_of.ensures

pub returns-in-None : goal.returns-in-None
unfolding digit_at
returns-in-None c =
    let m = get_or c.args.bytes.now 0 0 in
    let leaves = sym c.in-None.is ∙ c.row_at.ensures in
    present (line c.args.row).modrm c.args.row c.args.bytes.now (λ e. c.in_default.not-Absent (c.encoding_of.ensures.modrm ∙ e))
    ∙ one_byte (λ m. digit_at (row_at (line c.args.row).modrm c.args.row m) m) c.args.bytes.now c.in-len1-up.len_at_least
    ∙ ap (λ (o : Option Row). digit_at o m (take (length c.args.bytes.now - 1) (drop 1 c.args.bytes.now))) (sym leaves)
