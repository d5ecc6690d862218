-- The options in place of a command. These texts are this project's own.
use Rattle.std.specs.Prelude.{◌≡◌, ℕ, ◌⊎◌, List, codes}
use Rattle.lc_cli.specs.declared.help.Asked.{Asked}
use Rattle.lc_cli.specs.declared.help.Asked.TheVariants.{Help, Version}

-- how each option is written
abbrev pub IsOption : Asked → List ℕ → Type 0
IsOption Help text = (text ≡ codes "-h") ⊎ (text ≡ codes "--help")
IsOption Version text = (text ≡ codes "-V") ⊎ (text ≡ codes "--version")
