-- What a copy of a request is.
use Rattle.std.specs.Prelude.{Option, None, Some}
use Rattle.session_attrs.specs.declared.request.Creation.{Creation}
use Rattle.session_attrs.specs.declared.request.Kind.{Kind}
use Rattle.session_attrs.specs.declared.request.Kind.TheVariants as kinds

-- what it asks for where it creates a session
abbrev pub creation_in : Kind → Option Creation
creation_in (kinds.Creation creation) = Some creation
creation_in (kinds.Later sid) = None
