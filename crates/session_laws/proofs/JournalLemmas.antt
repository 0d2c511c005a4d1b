-- Journals by their entries.
use Rattle.std.proofs.Common.{List}
use Rattle.session_core.specs.Journal.{Entry, Journal}
use Rattle.session_core.specs.declared.opening.Opening.{Opening}

abbrev pub journal_with : Opening → List Entry → Journal
journal_with o entries = record { opening = o; entries = entries }
