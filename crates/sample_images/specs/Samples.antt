-- The texts of the sample's applications.
use Rattle.std.specs.Prelude.{ℕ, ◌==◌, if◌then◌else◌, List, Option, Some, None}
use Rattle.sample_images.specs.declared.sample_texts.TheConstants.{APP_1, APP_2}

-- there are two applications, 1 and 2
abbrev pub app_text : ℕ → Option (List ℕ)
app_text n = if n == 1 then Some APP_1.now else (if n == 2 then Some APP_2.now else None)
