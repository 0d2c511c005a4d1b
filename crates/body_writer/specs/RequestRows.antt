-- The attributes of a request with their values, in order.
use Rattle.std.specs.Prelude.{ℕ, Bool, true, false, List, [], ◌∷◌, ◌++◌, Option, None, Some, codes, if◌then◌else◌}
use Rattle.body_cutter.specs.Built.{Written}
use Rattle.body_writer.specs.declared.request.RequestParts.{RequestParts}
use Rattle.body_writer.specs.Rows.{value_row, number_row, text_row, httpbind_row, xbosh_row, xmpp_version_row, named_rows}

-- the namespace of `xmpp:` is in a creation and in a restart
unfoldable pub xmpp_rows : Option (List ℕ × ℕ × ℕ) → Bool → List Written
xmpp_rows None false = []
xmpp_rows None true = xbosh_row ∷ []
xmpp_rows (Some creation) restart = xbosh_row ∷ []

unfoldable pub sid_rows : Option (List ℕ) → List Written
sid_rows None = []
sid_rows (Some sid) = text_row (codes "sid") sid ∷ []

-- what a creation asks for: the host, and how long and how many requests are held at most
unfoldable pub creation_rows : List ℕ × ℕ × ℕ → List Written
creation_rows (to, wait, hold) =
    text_row (codes "to") to
    ∷ value_row (codes "xml:lang") (codes "en")
    ∷ number_row (codes "wait") wait
    ∷ number_row (codes "hold") hold
    ∷ value_row (codes "ver") (codes "1.11")
    ∷ value_row (codes "content") (codes "text/xml; charset=utf-8")
    ∷ []

-- a creation names its host, and so does a request that adds a stream, XEP-0124 section 16
unfoldable pub host_rows : Option (List ℕ × ℕ × ℕ) → Option (List ℕ) → List Written
host_rows None None = []
host_rows None (Some to) = text_row (codes "to") to ∷ []
host_rows (Some creation) to = creation_rows creation

-- an optional number, and an optional key
unfoldable pub number_rows : List ℕ → Option ℕ → List Written
number_rows name None = []
number_rows name (Some number) = number_row name number ∷ []

unfoldable pub key_rows : List ℕ → Option (List ℕ) → List Written
key_rows name None = []
key_rows name (Some key) = value_row name key ∷ []

unfoldable pub terminate_rows : Bool → List Written
terminate_rows terminate = if terminate then value_row (codes "type") (codes "terminate") ∷ [] else []

unfoldable pub version_rows : Option (List ℕ × ℕ × ℕ) → List Written
version_rows None = []
version_rows (Some creation) = xmpp_version_row ∷ []

unfoldable pub restart_rows : Bool → List Written
restart_rows restart = if restart then value_row (codes "xmpp:restart") (codes "true") ∷ [] else []

-- the attributes of a request
unfoldable pub request_attributes : RequestParts → List Written
request_attributes parts =
    httpbind_row
    ∷ xmpp_rows parts.creation parts.restart
    ++ number_row (codes "rid") parts.rid ∷ []
    ++ sid_rows parts.sid
    ++ named_rows parts.stream
    ++ host_rows parts.creation parts.to
    ++ number_rows (codes "ack") parts.ack
    ++ key_rows (codes "key") parts.key
    ++ key_rows (codes "newkey") parts.newkey
    ++ number_rows (codes "pause") parts.pause
    ++ terminate_rows parts.terminate
    ++ version_rows parts.creation
    ++ restart_rows parts.restart
