-- Why a script wasn't run to its end.
use Rattle.script_text.specs.declared.driven.DriveError.{DriveError}
use Rattle.script_text.specs.declared.driven.DriveError.TheVariants.{ReadFault, WriteFault, NoMemory}
use Rattle.script_text.specs.declared.kept.KeptError.{KeptError}
use Rattle.script_text.specs.declared.kept.KeptError.TheVariants as kept
use Rattle.line_reader.specs.declared.lines.ReadError.{ReadError}
use Rattle.line_reader.specs.declared.lines.ReadError.TheVariants.{ReadFault as ReadFailed, NoMemory as ReadNoMemory}

-- what an error of reading is to a script
abbrev pub drive_error_of : ReadError → DriveError
drive_error_of ReadFailed = ReadFault
drive_error_of ReadNoMemory = NoMemory

-- and over a file
abbrev pub kept_error_of : DriveError → KeptError
kept_error_of ReadFault = kept.ReadFault
kept_error_of WriteFault = kept.WriteFault
kept_error_of NoMemory = kept.NoMemory
