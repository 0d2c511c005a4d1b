-- What is known of a line that was read well.
use Rattle.std.specs.Prelude.{⊤, IsTrue}
use Rattle.body_cutter.specs.Cutting.{is_stanza}
use Rattle.script_text.specs.declared.line.LineRead.{LineRead}
use Rattle.script_text.specs.declared.line.LineRead.TheVariants.{Line, BadLine}
use Rattle.script_text.specs.declared.line.ScriptLine.{ScriptLine}
use Rattle.script_text.specs.declared.line.ScriptLine.TheVariants.{Open, Short, Host, At, Post, Close, Back, Shut, End}
use Rattle.session_attrs.specs.Serving.{can_serve}

-- sessions may be opened for its host, and what the server gives is a stanza
abbrev pub IsSaid : ScriptLine → Type 0
IsSaid (Open rid) = ⊤
IsSaid (Short rid stanza) = ⊤
IsSaid (Host name greeting) = IsTrue (can_serve (record { name = name; greeting = greeting }))
IsSaid (At moment) = ⊤
IsSaid (Post conn body) = ⊤
IsSaid (Close conn) = ⊤
IsSaid (Back sid stream stanza) = IsTrue (is_stanza stanza)
IsSaid (Shut sid stream closing) = ⊤
IsSaid End = ⊤

abbrev pub IsWellRead : LineRead → Type 0
IsWellRead (Line said) = IsSaid said
IsWellRead (BadLine kind) = ⊤
