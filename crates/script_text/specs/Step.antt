-- A line of a script, as it was read.
use Rattle.script_text.specs.declared.line.BadKind.TheVariants.{End, Length}
use Rattle.script_text.specs.declared.line.LineRead.{LineRead}
use Rattle.script_text.specs.declared.line.LineRead.TheVariants.{BadLine}
use Rattle.line_reader.specs.declared.lines.NextLine.{NextLine}
use Rattle.line_reader.specs.declared.lines.NextLine.TheVariants.{Line as IsLine, TooLong, NoLine}
use Rattle.script_text.specs.Line.{line_of}

-- what it says
abbrev pub read_of : NextLine → LineRead
read_of (IsLine line) = line_of line
read_of TooLong = BadLine Length
read_of NoLine = BadLine End
