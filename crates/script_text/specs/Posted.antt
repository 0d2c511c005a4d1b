-- What the lines of a script post, and which of it came to a session.
use Rattle.std.specs.Prelude.{◌≡◌, ℕ, ◌+◌, ◌==◌, Bool, false, List, [], ◌∷◌, ◌++◌, map, filter, Option, Some, None}
use Rattle.session_attrs.specs.declared.request.Kind.{Kind}
use Rattle.session_attrs.specs.declared.request.Kind.TheVariants as kinds
use Rattle.session_attrs.specs.declared.request.Request.{Request}
use Rattle.session_core.specs.Journal.{Journal}
use Rattle.session_core.specs.Run.{arrivals_of}
use Rattle.session_core.specs.State.{is_over}
use Rattle.session_laws.specs.Growing.{Begins}
use Rattle.script_text.specs.declared.line.LineRead.{LineRead}
use Rattle.script_text.specs.declared.line.LineRead.TheVariants.{Line, BadLine}
use Rattle.script_text.specs.declared.line.ScriptLine.{ScriptLine}
use Rattle.script_text.specs.declared.line.ScriptLine.TheVariants.{Open, Short, Host, At, Post, Close, Back, Shut, End as LastLine}
use Rattle.line_reader.specs.Lines.{lines_of}
use Rattle.script_text.specs.Live.{PlainLive, state}
use Rattle.script_text.specs.Manager.{number_of, request_in}
use Rattle.script_text.specs.Script.{PlainRun, Beginning, Goes, Ends, creation_text, request_text, step_by, said}

-- the session that a body names, where it can be read and names one
abbrev pub named_of : Kind → Option ℕ
named_of (kinds.Later sid) = number_of sid
named_of (kinds.Creation creation) = None

abbrev pub named_by : Option Request → Option ℕ
named_by None = None
named_by (Some request) = named_of request.kind

abbrev pub is_number : ℕ → Option ℕ → Bool
is_number number None = false
is_number number (Some other) = other == number

abbrev pub is_for : ℕ → List ℕ → Bool
is_for number body = is_number number (named_by (request_in body))

-- the body that a line posts, if it does
abbrev pub posts_of : ScriptLine → List (List ℕ)
posts_of (Open rid) = creation_text rid ∷ []
posts_of (Short rid stanza) = request_text rid stanza ∷ []
posts_of (Host name greeting) = []
posts_of (At moment) = []
posts_of (Post conn body) = body ∷ []
posts_of (Close conn) = []
posts_of (Back sid stream stanza) = []
posts_of (Shut sid stream closing) = []
posts_of LastLine = []

abbrev pub posts_in : LineRead → List (List ℕ)
posts_in (Line said) = posts_of said
posts_in (BadLine kind) = []

-- the bodies that a script posts, in order, before the line with which it ends
abbrev pub posts_on : PlainRun → ℕ → List (List ℕ) → List (List ℕ)
posts_on run n [] = []
posts_on run n (line ∷ others) =
    elim (step_by run n (said n line)).next [
      | Goes after ↦ posts_in (said n line) ++ posts_on after (n + 1) others
      | Ends outcome ↦ []
    ]

abbrev pub posts_by : List ℕ → List (List ℕ)
posts_by script = posts_on Beginning 1 (lines_of script)

-- the bodies that arrived for a session, that of its creation first
abbrev pub bodies_of : Journal → List (List ℕ)
bodies_of journal = map (λ copy. copy.body) (arrivals_of journal)

-- a session was created by one of these bodies, and all that name it among the later ones arrived, in order, as long as it
-- was live
pub record CameFrom (posts : List (List ℕ)) (s : PlainLive) : Type 0 where
  pub before : List (List ℕ)
  pub later : List (List ℕ)
  pub are : posts ≡ before ++ s.journal.opening.body ∷ later
  pub all : is_over (state s) ≡ false → bodies_of s.journal ≡ s.journal.opening.body ∷ filter (is_for s.number) later
  pub first : Begins (bodies_of s.journal) (s.journal.opening.body ∷ filter (is_for s.number) later)
