-- What the words of a command ask for, by whether clap takes them.
use Rattle.std.proofs.Common.{◌≡◌, true, false, List, Option, None, ap, refl, sym}
use Rattle.clap.specs.Words.{App, Row, Text}
use Rattle.tool_words.specs.Matches.{asked_by, found, refuses}

pub asked_by-taken : {S : Type 0} (app command : App) (settings : List Row → Option S) (words : List Text) (rows : List Row)
    → app ≡ command → refuses app words ≡ false → rows ≡ found app words → asked_by command settings words ≡ settings rows
asked_by-taken app command settings words rows same taken given = rw (← same) (rw taken (ap settings (sym given)))

pub asked_by-refused : {S : Type 0} (app command : App) (settings : List Row → Option S) (words : List Text)
    → app ≡ command → refuses app words ≡ true → asked_by command settings words ≡ None
asked_by-refused app command settings words same refused = rw (← same) (rw refused refl)
