-- What the bodies of a trace say: requests that were sent, and answers.
use Rattle.std.specs.Prelude.{ℕ, Bool, true, false, not, ◌&&◌, ◌==◌, is_none, is_some, List, [], ◌∷◌, ◌++◌, map, length, Option, None, Some, codes, if◌then◌else◌}
use Rattle.body_cutter.specs.declared.parts.Cut.{Cut}
use Rattle.body_cutter.specs.Cutting.{body_cut_of}
use Rattle.body_cutter.specs.Pieces.{bytes_at}
use Rattle.session_attrs.specs.declared.request.Kind.{Kind}
use Rattle.session_attrs.specs.declared.request.Kind.TheVariants as kinds
use Rattle.session_attrs.specs.declared.request.Request.{Request}
use Rattle.session_attrs.specs.Attributes.{value_of}
use Rattle.session_attrs.specs.Body.{request_in, unrefused}
use Rattle.session_attrs.specs.Forms.{says_httpbind}
use Rattle.trace_audit.specs.declared.bodies.Posted.{Posted}
use Rattle.trace_audit.specs.declared.bodies.Reply.{Reply}
use Rattle.trace_audit.specs.declared.line.Item.{Item}
use Rattle.trace_audit.specs.declared.line.Item.TheVariants.{Stanza, Restart}

-- a restart of the stream, XEP-0206 section 5
abbrev pub restart_item : Bool → List Item
restart_item restart = if restart then Restart ∷ [] else []

-- what a request passes inward: its children in order, each as its exact bytes, and then a restart where it asks for one
abbrev pub items_in : List ℕ → Request → List Item
items_in body request = map (λ span. Stanza (bytes_at body span)) request.stanzas ++ restart_item request.restart

abbrev pub creates : Kind → Bool
creates (kinds.Creation creation) = true
creates (kinds.Later sid) = false

-- it carries nothing, XEP-0124 section 11
abbrev pub is_empty : Request → Bool
is_empty request = ((length request.stanzas == 0) && is_none request.pause) && not request.terminate && not request.restart

-- a later request that carries nothing and names a host asks for one more stream, XEP-0124 section 16
abbrev pub is_add : Request → Bool
is_add request = not (creates request.kind) && is_some request.to && is_empty request

-- it is for the session's one stream, which has no name
abbrev pub is_plain : Request → Bool
is_plain request = is_none request.stream && not (is_add request)

-- what a trace keeps of a request
abbrev pub posted : List ℕ → Request → Posted
posted body request = record {
  rid = request.rid;
  creates = creates request.kind;
  terminate = request.terminate;
  items = items_in body request;
  body = body;
}

abbrev pub posted_by : List ℕ → Option Request → Option Posted
posted_by body None = None
posted_by body (Some request) = if is_plain request then Some (posted body request) else None

-- the request that a body makes, where it is for the session's one stream
unfoldable pub posted_of : List ℕ → Option Posted
posted_of body = posted_by body (request_in body)

abbrev pub reply : ℕ → List ℕ → Cut → Reply
reply rid body cut = record {
  rid = rid;
  typed = is_some (value_of body cut.attrs (codes "type"));
  payloads = map (bytes_at body) cut.children;
  body = body;
}

abbrev pub reply_by : ℕ → List ℕ → Option Cut → Option Reply
reply_by rid body None = None
reply_by rid body (Some cut) =
    if says_httpbind (value_of body cut.attrs (codes "xmlns")) then Some (reply rid body cut) else None

-- the answer of a request, where the body can be cut and is in the namespace
unfoldable pub reply_of : ℕ → List ℕ → Option Reply
reply_of rid body = reply_by rid body (unrefused (body_cut_of body))
