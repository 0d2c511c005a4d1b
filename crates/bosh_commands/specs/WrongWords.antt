-- What is wrong with words that are no command, by the first of them.
use Rattle.std.specs.Prelude.{List, [], ◌∷◌, ℕ, String, string_bytes, codes, if◌then◌else◌}
use Rattle.std.specs.Global.{Global}
use Rattle.std.specs.Str.{bytes_eq}
use Rattle.bosh_commands.specs.declared.wrong_words.Mistake.{Mistake}
use Rattle.bosh_commands.specs.declared.wrong_words.Mistake.TheVariants as mistakes

unfoldable pub one_word_mistake : List ℕ → Mistake
one_word_mistake first =
    if bytes_eq first (codes "drive") then mistakes.ScriptStandsAlone
    else if bytes_eq first (codes "pair") then mistakes.ScriptStandsAlone
    else if bytes_eq first (codes "audit") then mistakes.ScriptStandsAlone
    else if bytes_eq first (codes "load") then mistakes.LoadTakesANumber
    else if bytes_eq first (codes "keep") then mistakes.KeepTakesAFile
    else if bytes_eq first (codes "serve") then mistakes.ServeOptions
    else if bytes_eq first (codes "client") then mistakes.ClientOptions
    else if bytes_eq first (codes "--help") then mistakes.QuestionStandsAlone
    else if bytes_eq first (codes "--version") then mistakes.QuestionStandsAlone
    else mistakes.NoSuchCommand

abbrev pub mistake_of : List (String Global) → Mistake
mistake_of [] = mistakes.NoCommand
mistake_of (first ∷ rest) = one_word_mistake (string_bytes first)
