-- The attributes of a request, block by block.
use Rattle.std.proofs.Common.{◌≡◌, ℕ, Bool, true, false, List, [], ◌∷◌, ◌++◌, refl, arith}
use Rattle.std.specs.Prelude.{Option, None, Some, codes, IfSome}
use Rattle.bosh_types.specs.Rid.{IsRid}
use Rattle.body_cutter.specs.Built.{built_text}
use Rattle.body_writer.specs.declared.request.RequestParts.{RequestParts}
use Rattle.body_writer.specs.Request.{request_text}
use Rattle.body_writer.specs.RequestRows.{request_attributes, xmpp_rows, sid_rows, creation_rows, host_rows, number_rows, key_rows, terminate_rows, version_rows, restart_rows}
use Rattle.body_writer.specs.ReadBack.{IsRequest, IsAllowed, IsKey, IsWord, ReadsAs}
use Rattle.body_writer.proofs.Plain.{is_simple_name, key_plain}
use Rattle.body_writer.proofs.Blocks.{Block, block_none, block_plain, block_value, block_number, block_text, block_both}
use Rattle.body_writer.proofs.AnswerBlocks.{block_httpbind, block_named, block_version}
use Rattle.body_writer.proofs.ReadBacks.{rows_built, rows_read}

xmpp_block : {Holds : Type 0} (creation : Option (List ℕ × ℕ × ℕ)) (restart : Bool) → Block Holds (xmpp_rows creation restart) (codes "xmlns:xmpp" ∷ [])
unfolding xmpp_rows
xmpp_block None false = block_none _
xmpp_block None true = block_value (codes "xmlns:xmpp") (codes "urn:xmpp:xbosh") refl refl
xmpp_block (Some creation) restart = block_value (codes "xmlns:xmpp") (codes "urn:xmpp:xbosh") refl refl

sid_block : {Holds : Type 0} (sid : Option (List ℕ)) → (Holds → IfSome sid IsAllowed) → Block Holds (sid_rows sid) (codes "sid" ∷ [])
unfolding sid_rows
sid_block None is = block_none _
sid_block (Some sid) is = block_text (codes "sid") sid refl is

abbrev creation_names : List (List ℕ)
creation_names = codes "to" ∷ codes "xml:lang" ∷ codes "wait" ∷ codes "hold" ∷ codes "ver" ∷ codes "content" ∷ []

creation_block : {Holds : Type 0} (to : List ℕ) (wait hold : ℕ) → (Holds → IsAllowed to × IsWord wait × IsWord hold) → Block Holds (creation_rows (to, wait, hold)) creation_names
unfolding creation_rows
creation_block to wait hold is =
    block_both (block_both (block_both (block_both (block_both
    (block_text (codes "to") to refl (λ h. (is h).0))
    (block_value (codes "xml:lang") (codes "en") refl refl))
    (block_number (codes "wait") wait refl (λ h. (is h).1)))
    (block_number (codes "hold") hold refl (λ h. (is h).2)))
    (block_value (codes "ver") (codes "1.11") refl refl))
    (block_value (codes "content") (codes "text/xml; charset=utf-8") refl refl)

host_block : {Holds : Type 0} (creation : Option (List ℕ × ℕ × ℕ)) (to : Option (List ℕ)) → (Holds → IfSome creation (λ c. IsAllowed c.0 × IsWord c.1 × IsWord c.2)) → (Holds → IfSome to IsAllowed) →
    Block Holds (host_rows creation to) creation_names
unfolding host_rows
host_block None None asked is = block_none _
host_block None (Some to) asked is =
    block_both (block_text (codes "to") to refl is) (block_none (codes "xml:lang" ∷ codes "wait" ∷ codes "hold" ∷ codes "ver" ∷ codes "content" ∷ []))
host_block (Some (to, wait, hold)) other asked is = creation_block to wait hold asked

ack_block : {Holds : Type 0} (ack : Option ℕ) → (Holds → IfSome ack IsWord) → Block Holds (number_rows (codes "ack") ack) (codes "ack" ∷ [])
unfolding number_rows
ack_block None is = block_none _
ack_block (Some ack) is = block_number (codes "ack") ack refl is

key_block : {Holds : Type 0} (name : List ℕ) (key : Option (List ℕ)) → is_simple_name name ≡ true → (Holds → IfSome key IsKey) → Block Holds (key_rows name key) (name ∷ [])
unfolding key_rows
key_block name None n is = block_none _
key_block name (Some key) n is = block_plain name key n (λ h. key_plain key (is h))

pause_block : {Holds : Type 0} (pause : Option ℕ) → (Holds → IfSome pause IsWord) → Block Holds (number_rows (codes "pause") pause) (codes "pause" ∷ [])
unfolding number_rows
pause_block None is = block_none _
pause_block (Some pause) is = block_number (codes "pause") pause refl is

terminate_block : {Holds : Type 0} (terminate : Bool) → Block Holds (terminate_rows terminate) (codes "type" ∷ [])
unfolding terminate_rows
terminate_block true = block_value (codes "type") (codes "terminate") refl refl
terminate_block false = block_none _

version_block : {Holds : Type 0} (creation : Option (List ℕ × ℕ × ℕ)) → Block Holds (version_rows creation) (codes "xmpp:version" ∷ [])
unfolding version_rows
version_block None = block_none _
version_block (Some creation) = block_version

restart_block : {Holds : Type 0} (restart : Bool) → Block Holds (restart_rows restart) (codes "xmpp:restart" ∷ [])
unfolding restart_rows
restart_block true = block_value (codes "xmpp:restart") (codes "true") refl refl
restart_block false = block_none _

abbrev request_names : List (List ℕ)
request_names =
    codes "xmlns" ∷ codes "xmlns:xmpp" ∷ codes "rid" ∷ codes "sid" ∷ codes "stream" ∷ codes "to" ∷ codes "xml:lang" ∷ codes "wait" ∷ codes "hold"
    ∷ codes "ver" ∷ codes "content" ∷ codes "ack" ∷ codes "key" ∷ codes "newkey" ∷ codes "pause" ∷ codes "type" ∷ codes "xmpp:version"
    ∷ codes "xmpp:restart" ∷ []

rid_word : (rid : ℕ) → IsRid rid → IsWord rid
rid_word rid is = omega (arith, is.1)

request_blocks : (parts : RequestParts) → Block (IsRequest parts) (request_attributes parts) request_names
unfolding request_attributes
request_blocks parts =
    block_both (block_both (block_both (block_both (block_both (block_both (block_both (block_both (block_both (block_both (block_both (block_both block_httpbind
    (xmpp_block parts.creation parts.restart))
    (block_number (codes "rid") parts.rid refl (λ is. rid_word parts.rid is.rid)))
    (sid_block parts.sid (λ is. is.sid)))
    (block_named parts.stream (λ is. is.stream)))
    (host_block parts.creation parts.to (λ is. is.creation) (λ is. is.to)))
    (ack_block parts.ack (λ is. is.ack)))
    (key_block (codes "key") parts.key refl (λ is. is.key)))
    (key_block (codes "newkey") parts.newkey refl (λ is. is.newkey)))
    (pause_block parts.pause (λ is. is.pause)))
    (terminate_block parts.terminate))
    (version_block parts.creation))
    (restart_block parts.restart)

pub request_built : (parts : RequestParts) → request_text parts ≡ built_text (request_attributes parts) parts.payloads
unfolding request_text
request_built parts = rows_built (request_attributes parts) parts.payloads

pub request_reads : (parts : RequestParts) → IsRequest parts → ReadsAs (request_text parts) (request_attributes parts) parts.payloads
unfolding request_text
request_reads parts is = rows_read (request_blocks parts) parts.payloads is refl (omega arith) is.payloads is.fits
