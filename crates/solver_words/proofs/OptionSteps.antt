-- One option and its value.
use Rattle.std.proofs.Common.{◌≡◌, ◌+◌, ℕ, List, ◌∷◌, String, string_bytes, Ok, refl}
use Rattle.std.specs.declared.alloc.Global.{Global}
use Rattle.solver_words.specs.declared.options.Setting.{Setting}
use Rattle.solver_words.specs.declared.options.Options.{Options}
use Rattle.solver_words.specs.declared.options.Taker.{Taker}
use Rattle.solver_words.specs.Texts.{texts}
use Rattle.solver_words.specs.Options.{setting_at, with_value, options_from}

pub options_step : (taker : Taker) (at : ℕ) (given next : Options) (setting : Setting)
    (rest more after : List (String Global)) (option value : String Global)
    → rest ≡ option ∷ more → more ≡ value ∷ after
    → setting_at taker at (string_bytes option) given ≡ Ok setting
    → with_value (at + 1) setting given (string_bytes value) ≡ Ok next
    → options_from taker (at + 2) next (texts after) ≡ options_from taker at given (texts rest)
options_step taker at given next setting rest more after option value first second is_setting is_value = rw
    (first, second, is_setting, is_value) refl
