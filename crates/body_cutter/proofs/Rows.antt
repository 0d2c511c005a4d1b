-- The definitions compute: what texts are cut into.
use Rattle.std.proofs.Common.{◌≡◌, refl, true, false, [], ◌∷◌}
use Rattle.std.specs.Prelude.{codes, ⊤, Ok, Err}
use Rattle.std.specs.Char.{encode_utf8}
use Rattle.std.specs.Str.{chars, is_utf8}
use Rattle.body_cutter.specs.declared.parts.CutRefusal.TheVariants.{NotUtf8, NotBody, Forbidden, Malformed}
use Rattle.body_cutter.specs.Chars.{is_space, is_plain, is_letter, is_digit, begins_name_plainly, grows_name_plainly, is_allowed, wide_begin, wide_next, is_char_byte, is_name_start, is_name_byte, ends_whole}
use Rattle.body_cutter.specs.Names.{around, due, has_name, with_name}
use Rattle.body_cutter.specs.Reader.{place_next, matched, move_of, is_body_tag, with_value, with_element, with_attr_name, with_attr, without_element, with_name_begun, with_name_grown, attr_named, acted, next_move, step, first_state}
use Rattle.body_cutter.specs.References.{letter, begun_next, letter_a_next, done_if, done_number, decimal_more, hex_more, hex_digit, decimal_next, hex_next, number_next, decimal_or_end, hex_or_end, reference_next}
use Rattle.body_cutter.specs.Refusal.{reading, is_before_body, is_complete, ends_in_section_start, is_forbidden, stopped_refusal, limit_refusal, ended_refusal, read_answer, text_answer}
use Rattle.body_cutter.specs.Cutting.{body_cut_of, stanza_read_of, is_stanza}
use Rattle.body_cutter.specs.Tables.{start_next, first_next, xml_letter, declaration_word_next, declaration_next, prolog_next, body_letter, name_ended, body_word_next, tag_name_next, tag_space_next, attr_name_next, attr_equals_next, attr_quote_next, value_plain, value_next, after_value_next, tag_slash_next, stanza_start_next, more_brackets, child_content_next, body_content_next, content_next, opened_in_body, opened_in_child, opened_next, section_letter, section_word_next, section_next, end_space_next, end_name_next}

-- what a row unfolds that cuts a text
unfoldable pub cuts_compute : ⊤
unfolding chars encode_utf8 is_utf8 is_space is_plain is_letter is_digit begins_name_plainly grows_name_plainly is_allowed wide_begin wide_next is_char_byte is_name_start is_name_byte ends_whole around due has_name with_name place_next matched move_of is_body_tag with_value with_element with_attr_name with_attr without_element with_name_begun with_name_grown attr_named acted next_move step first_state letter begun_next letter_a_next done_if done_number decimal_more hex_more hex_digit decimal_next hex_next number_next decimal_or_end hex_or_end reference_next reading is_before_body is_complete ends_in_section_start is_forbidden stopped_refusal limit_refusal ended_refusal read_answer text_answer body_cut_of stanza_read_of is_stanza start_next first_next xml_letter declaration_word_next declaration_next prolog_next body_letter name_ended body_word_next tag_name_next tag_space_next attr_name_next attr_equals_next attr_quote_next value_plain value_next after_value_next tag_slash_next stanza_start_next more_brackets child_content_next body_content_next content_next opened_in_body opened_in_child opened_next section_letter section_word_next section_next end_space_next end_name_next
cuts_compute = tt

parts : body_cut_of (codes "<body rid='7'><a/> <b>&lt;</b></body>") ≡ Ok (record {
  attrs = record { name = record { start = 6; end = 9 }; value = codes "7" } ∷ [];
  children = record { start = 14; end = 18 } ∷ record { start = 19; end = 30 } ∷ [];
})
unfolding cuts_compute
parts = refl

no_body : body_cut_of (codes "<message/>") ≡ Err NotBody
unfolding cuts_compute
no_body = refl

forbidden : body_cut_of (codes "<body><!-- --></body>") ≡ Err (Forbidden 7)
unfolding cuts_compute
forbidden = refl

malformed : body_cut_of (codes "<body></bodi>") ≡ Err (Malformed 11)
unfolding cuts_compute
malformed = refl

no_text : body_cut_of (0xc0 ∷ 0x80 ∷ []) ≡ Err NotUtf8
unfolding cuts_compute
no_text = refl

stanza : is_stanza (codes "<message to='a@b'><body>]] &gt;</body></message>") ≡ true
unfolding cuts_compute
stanza = refl

no_stanza : is_stanza (codes " <a/>") ≡ false
unfolding cuts_compute
no_stanza = refl
