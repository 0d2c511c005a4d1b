-- The grammar of a stream (RFC 6120 section 4): a header, then white space and elements, and at last the end tag; another header
-- may follow where the stream is restarted.
use Rattle.std.specs.Prelude.{◌≡◌, ℕ, Bool, true, false, ◌≤◌, ◌==◌, ◌&&◌, ◌||◌, List, [], ◌∷◌, ◌++◌, length, drop, codes, nat_eq, Option, None, Some, if◌then◌else◌}
use Rattle.std.specs.List.{list_all, starts_with, ends_with}
use Rattle.body_cutter.specs.BodyText.{IsStanza}
use Rattle.body_cutter.specs.Chars.{is_plain, is_space}
use Rattle.body_cutter.specs.Cutting.{is_stanza}
use Rattle.body_cutter.specs.Viable.{ends_name}
use Rattle.xmpp_stream.specs.declared.stage.Mark.{Mark}
use Rattle.xmpp_stream.specs.declared.stage.Mark.TheVariants.{Element, Tag, Undecided}
use Rattle.xmpp_stream.specs.declared.stage.Stage.{Stage}
use Rattle.xmpp_stream.specs.declared.stage.Stage.TheVariants.{Begun, Waits, Inside, Ended}
use Rattle.xmpp_stream.specs.Qualified.{qualified}
use Rattle.xmpp_stream.specs.Tag.{IsTag, first_is}
use Rattle.xmpp_stream.specs.Text.{end_tag}

-- how many bytes a tag of a stream itself has at most
abbrev pub longest_tag : ℕ
longest_tag = 4096

-- an element that begins so has a name that ends here
abbrev pub is_named : List ℕ → List ℕ → Bool
is_named mark text = starts_with nat_eq text mark && first_is ends_name (drop (length mark) text)

unfoldable pub stream_mark : List ℕ
stream_mark = codes "<stream:stream"

unfoldable pub error_mark : List ℕ
error_mark = codes "<stream:error"

-- a declaration (XML 1.0 section 2.8)
unfoldable pub is_declaration : List ℕ → Bool
is_declaration tag =
    starts_with nat_eq tag (codes "<?xml") && (first_is is_space (drop 5 tag) && (ends_with nat_eq tag (codes "?>") && list_all is_plain tag))

-- the start tag of a stream: with the end tag after it, it is an element (RFC 6120 section 4.2)
unfoldable pub is_start_tag : List ℕ → Bool
is_start_tag tag = is_named stream_mark tag && is_stanza (tag ++ end_tag)

-- the end tag, with white space or without
unfoldable pub is_end_tag : List ℕ → Bool
is_end_tag tag = starts_with nat_eq tag (codes "</stream:stream") && list_all (λ b. is_space b || b == 62) (drop 15 tag)

-- where a header may come: everywhere but after the end; a declaration comes first, or inside of a stream
abbrev pub takes_header : Stage → Bool
takes_header Begun = true
takes_header Waits = true
takes_header Inside = true
takes_header Ended = false

abbrev pub takes_declaration : Stage → Bool
takes_declaration Begun = true
takes_declaration Waits = false
takes_declaration Inside = true
takes_declaration Ended = false

abbrev pub is_inside : Stage → Bool
is_inside Begun = false
is_inside Waits = false
is_inside Inside = true
is_inside Ended = false

abbrev pub is_ended : Stage → Bool
is_ended Begun = false
is_ended Waits = false
is_ended Inside = false
is_ended Ended = true

-- after white space no declaration may come but inside of a stream
abbrev pub after_space : Stage → Stage
after_space Begun = Waits
after_space Waits = Waits
after_space Inside = Inside
after_space Ended = Ended

-- where a tag leads that is none of an element
unfoldable pub after_tag : Stage → List ℕ → Option Stage
after_tag stage tag =
    if takes_header stage && is_start_tag tag then Some Inside
    else if takes_declaration stage && is_declaration tag then Some Waits
    else if is_inside stage && is_end_tag tag then Some Ended else None

-- the text is these parts of a stream, one after the other, with these elements among them; and what it leads to
pub data Reads : List ℕ → Stage → List (List ℕ) → Type 0 where
  nothing : Reads [] Begun []
  space : {text : List ℕ} {stage : Stage} {elements : List (List ℕ)} (b : ℕ) → is_space b ≡ true → Reads text stage elements →
      Reads (text ++ b ∷ []) (after_space stage) elements
  tag : {text : List ℕ} {stage next : Stage} {elements : List (List ℕ)} (bytes : List ℕ) → IsTag bytes → length bytes ≤ longest_tag →
      after_tag stage bytes ≡ Some next → Reads text stage elements → Reads (text ++ bytes) next elements
  element : {text : List ℕ} {elements : List (List ℕ)} (bytes : List ℕ) → IsStanza bytes → is_named stream_mark bytes ≡ false → IsStanza (qualified bytes) →
      Reads text Inside elements → Reads (text ++ bytes) Inside (elements ++ bytes ∷ [])

-- what a text may be that begins with `<`, inside of a stream: a tag of the stream, or an element
abbrev pub unnamed_mark : List ℕ → Mark
unnamed_mark text = if first_is (λ b. b == 47 || b == 63) (drop 1 text) then Tag else Element

unfoldable pub mark_of : List ℕ → Mark
mark_of text =
    if starts_with nat_eq stream_mark text then Undecided else if is_named stream_mark text then Tag else unnamed_mark text

-- only inside of a stream are there elements
abbrev pub mark_in : Stage → List ℕ → Mark
mark_in Begun text = Tag
mark_in Waits text = Tag
mark_in Inside text = mark_of text
mark_in Ended text = Tag
