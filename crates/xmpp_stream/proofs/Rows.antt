-- The definitions compute: texts, elements that stand alone, and where tags lead.
use Rattle.std.proofs.Common.{◌≡◌, refl, true, [], ◌∷◌}
use Rattle.std.specs.Prelude.{codes, ⊤, None, Some}
use Rattle.bosh_types.specs.declared.inward.Inward.TheVariants.{Item, Restart}
use Rattle.body_cutter.proofs.Rows.{cuts_compute}
use Rattle.body_writer.specs.Attribute.{escaped_byte}
use Rattle.xmpp_stream.specs.declared.stage.Mark.TheVariants as marks
use Rattle.xmpp_stream.specs.declared.stage.Stage.TheVariants.{Begun, Waits, Inside, Ended}
use Rattle.xmpp_stream.specs.Qualified.{begins_namespace, has_namespace, is_bare, name_length, namespace_text, qualified, with_namespace}
use Rattle.xmpp_stream.specs.Stream.{after_tag, error_mark, is_declaration, is_end_tag, is_named, is_start_tag, mark_of, stream_mark}
use Rattle.xmpp_stream.specs.Tag.{tag_end}
use Rattle.xmpp_stream.specs.Text.{end_tag, header_back, header_front, stream_text}

-- what a row unfolds
unfoldable pub streams_compute : ⊤
unfolding cuts_compute escaped_byte header_front header_back end_tag name_length begins_namespace has_namespace namespace_text is_bare with_namespace qualified tag_end stream_mark error_mark is_declaration is_start_tag is_end_tag after_tag mark_of
streams_compute = tt

text : stream_text (codes "a&'b") (Item 0 (codes "<auth/>") ∷ Restart 0 ∷ []) true ≡ codes "<?xml version='1.0'?><stream:stream to='a&amp;&apos;b' version='1.0' xmlns='jabber:client' xmlns:stream='http://etherx.jabber.org/streams'><auth/><?xml version='1.0'?><stream:stream to='a&amp;&apos;b' version='1.0' xmlns='jabber:client' xmlns:stream='http://etherx.jabber.org/streams'></stream:stream>"
unfolding streams_compute
text = refl

bare : qualified (codes "<a b=' xmlns=' xmlns:c='d'><e xmlns='f'/></a>") ≡ codes "<a xmlns='jabber:client' b=' xmlns=' xmlns:c='d'><e xmlns='f'/></a>"
unfolding streams_compute
bare = refl

named : qualified (codes "<a\txmlns = 'b'/>") ≡ codes "<a\txmlns = 'b'/>"
unfolding streams_compute
named = refl

prefixed : qualified (codes "<stream:features><a/></stream:features>") ≡ codes "<stream:features><a/></stream:features>"
unfolding streams_compute
prefixed = refl

tag : tag_end 0 None (codes "<a b='>'><c/>") ≡ Some 9
unfolding streams_compute
tag = refl

declaration : after_tag Begun (codes "<?xml version='1.0'?>") ≡ Some Waits
unfolding streams_compute
declaration = refl

no_declaration : after_tag Waits (codes "<?xml version='1.0'?>") ≡ None
unfolding streams_compute
no_declaration = refl

header : after_tag Waits (codes "<stream:stream a='&lt;'>") ≡ Some Inside
unfolding streams_compute
header = refl

no_header : after_tag Waits (codes "<stream:stream/>") ≡ None
unfolding streams_compute
no_header = refl

ended : after_tag Inside (codes "</stream:stream\n>") ≡ Some Ended
unfolding streams_compute
ended = refl

undecided : mark_of (codes "<stream:st") ≡ marks.Undecided
unfolding streams_compute
undecided = refl

features : mark_of (codes "<stream:features") ≡ marks.Element
unfolding streams_compute
features = refl

error : is_named error_mark (codes "<stream:error><a/></stream:error>") ≡ true
unfolding streams_compute
error = refl
