-- How an input ends that is put to a client: by its end, by a bad line, or by a client that takes no more.
use Rattle.std.proofs.Common.{◌≡◌, ◌≤◌, ◌<◌, ℕ, ◌+◌, true, false, List, [], ◌∷◌, ◌++◌, ◌⊎◌, Some, None, inl, inr, nat_lt, length, refl, sym, ◌∙◌, ap, subst, append_assoc, arith, Bool, if◌then◌else◌}
use Rattle.std.specs.Prelude.{Option, Ok, Err, IfSome, is_ok}
use Rattle.std.specs.List.{list_all}
use Rattle.std.specs.Str.{is_utf8}
use Rattle.std.specs.Io.KnownBytes.{prepend_known}
use Rattle.std.proofs.lemmas.Bool.Decides.{nat_tests}
use Rattle.bosh_client.specs.declared.replies.Queued.{Queued}
use Rattle.bosh_client.specs.declared.replies.Queued.TheVariants as queueings
use Rattle.bosh_client.specs.Machine.{is_full, is_over, put}
use Rattle.bosh_client.specs.PlainClient.{PlainClient}
use Rattle.bosh_client.specs.Runs as plain
use Rattle.bosh_client.specs.Runs.{called}
use Rattle.bosh_client.proofs.RunLemmas.{by_if}
use Rattle.bosh_types.specs.Limits.{longest_line, most_lines}
use Rattle.body_cutter.specs.declared.parts.CutRefusal.TheVariants.{TooLong, NotUtf8}
use Rattle.body_cutter.specs.declared.place.Kind.TheVariants as kinds
use Rattle.body_cutter.specs.declared.place.Place.TheVariants.{StanzaStart}
use Rattle.body_cutter.specs.Cutting.{is_stanza, stanza_read_of}
use Rattle.body_cutter.specs.Refusal.{read_answer, reading, text_answer, unit_answer}
use Rattle.body_cutter.specs.Reader.{first_state}
use Rattle.line_reader.specs.Lines.{IsFirstLonger, Reads, lines_of}
use Rattle.line_reader.specs.declared.lines.NextLine.TheVariants as lines
use Rattle.parked_gate.specs.Histories.{Appends}
use Rattle.parked_gate.specs.Passes.{Known}
use Rattle.client_run.specs.declared.call.Call.TheVariants as calls
use Rattle.client_run.specs.declared.call.Reply.TheVariants as replies
use Rattle.client_run.specs.declared.entry.Entry.{Entry}
use Rattle.client_run.specs.declared.talking.Input.TheVariants as inputs
use Rattle.client_run.specs.declared.talking.Talked.TheVariants as talked
use Rattle.client_run.specs.Handing.{Out}
use Rattle.client_run.specs.History.{After, Enters}
use Rattle.client_run.specs.Input.{IsFirstBad, PutsAll, TakesNoMore}
use Rattle.client_run.specs.Queueing.{Puts}
use Rattle.client_run.specs.Talking.{EndsTalk, IsOneMore, SaysBy, Takes, Talk, Talks, talk_of}
use Rattle.client_run.proofs.AddingLemmas.{Makes, called_makes}
use Rattle.client_run.proofs.TalkLemmas.{HasLines, Spoken, all_read, speaks_spoken, stanzas_closed}

-- a line that is too long is no stanza
long_none : (text : List ℕ) → 1000000 < length text → is_stanza text ≡ false
unfolding is_stanza stanza_read_of text_answer
long_none text long =
    let b : nat_lt 1000000 (length text) ≡ true = grind (arith, nat_tests, long) in
    ap (λ b. is_ok (unit_answer (if b then Err TooLong else if is_utf8 text then read_answer text (reading 0 (first_state kinds.Stanza StanzaStart) text) else Err NotUtf8))) b

-- a first line that is none
abbrev pub IsBadFirst : List (List ℕ) → Type 0
IsBadFirst ls = (bad : List ℕ) × (rest : List (List ℕ)) × (ls ≡ bad ∷ rest) × (is_stanza bad ≡ false)

long_first : (ls : List (List ℕ)) → IsFirstLonger longest_line ls → IsBadFirst ls
long_first [] longer = absurd longer
long_first (line ∷ others) longer = (line, others, refl, long_none line (omega (arith, longer)))

some_first : (ls : List (List ℕ)) → IsFirstLonger longest_line ls → (bad : List ℕ) × (rest : List (List ℕ)) × (ls ≡ bad ∷ rest)
some_first [] longer = absurd longer
some_first (line ∷ others) longer = (line, others, refl)

module _ (bytes rest : List ℕ) (put : List (List ℕ)) (n : ℕ) (has : lines_of bytes ≡ put ++ lines_of rest) (place : n ≡ length put + 1) (stanzas : list_all is_stanza put ≡ true) (few : length put ≤ most_lines) where
  bad_by : IsBadFirst (lines_of rest) → IsFirstBad (lines_of bytes) n
  bad_by first = record { front = put; bad = first.0; rest = first.1; is = has ∙ ap (λ ls. put ++ ls) first.2; place = place; stanzas = stanzas; few = few; why = inl first.3 }

  more_by : length put ≡ most_lines → (bad : List ℕ) × (others : List (List ℕ)) × (lines_of rest ≡ bad ∷ others) → IsFirstBad (lines_of bytes) n
  more_by full first = record { front = put; bad = first.0; rest = first.1; is = has ∙ ap (λ ls. put ++ ls) first.2; place = place; stanzas = stanzas; few = few; why = inr (place ∙ ap (λ k. k + 1) full) }

-- the next line is bad
bad_line : (bytes : List ℕ) (left later : Option (List ℕ)) (put : List (List ℕ)) (n : ℕ) → HasLines (Some bytes) put left → n ≡ length put + 1 → list_all is_stanza put ≡ true → length put ≤ most_lines
    → Takes left later inputs.Other → IsFirstBad (lines_of bytes) n
unfolding Takes
bad_line bytes None later put n has place stanzas few takes = absurd has
bad_line bytes (Some rest) None put n has place stanzas few (inl long) = absurd long
bad_line bytes (Some rest) None put n has place stanzas few (inr (line, reads, none)) = absurd reads
bad_line bytes (Some rest) (Some rest') put n has place stanzas few (inl long) = bad_by bytes rest put n has place stanzas few (long_first (lines_of rest) long)
bad_line bytes (Some rest) (Some rest') put n has place stanzas few (inr (line, reads, none)) = bad_by bytes rest put n has place stanzas few (line, lines_of rest', reads.0, none)

-- or it is one too many
more_line : (bytes : List ℕ) (left later : Option (List ℕ)) (put : List (List ℕ)) (n : ℕ) → HasLines (Some bytes) put left → n ≡ length put + 1 → list_all is_stanza put ≡ true → length put ≡ most_lines
    → Reads left later lines.TooLong ⊎ ((line : List ℕ) × Reads left later (lines.Line line)) → IsFirstBad (lines_of bytes) n
more_line bytes None later put n has place stanzas full reads = absurd has
more_line bytes (Some rest) None put n has place stanzas full (inl long) = absurd long
more_line bytes (Some rest) None put n has place stanzas full (inr (line, reads)) = absurd reads
more_line bytes (Some rest) (Some rest') put n has place stanzas full (inl long) = more_by bytes rest put n has place stanzas (omega (arith, full)) full (some_first (lines_of rest) long)
more_line bytes (Some rest) (Some rest') put n has place stanzas full (inr (line, reads)) = more_by bytes rest put n has place stanzas (omega (arith, full)) full (line, lines_of rest', reads.0)

pub bad_in : (input left later : Option (List ℕ)) (t : Talk) (n : ℕ) (put : List (List ℕ)) → t.left ≡ left → t.put ≡ put → HasLines input put left → n ≡ length put + 1 → list_all is_stanza put ≡ true → length put ≤ most_lines
    → Takes left later inputs.Other ⊎ IsOneMore t later → IfSome input (λ bytes. IsFirstBad (lines_of bytes) n)
bad_in None left later t n put at is has place stanzas few why = tt
bad_in (Some bytes) left later t n put at is has place stanzas few (inl takes) = bad_line bytes left later put n has place stanzas few takes
bad_in (Some bytes) left later t n put at is has place stanzas few (inr more) =
    more_line bytes left later put n has place stanzas (ap length (sym is) ∙ more.0)
    (subst (λ l. Reads l later lines.TooLong ⊎ ((line : List ℕ) × Reads l later (lines.Line line))) at more.1)

-- a bad line is the first one
pub talks_bad : (out0 out : Out) (input left : Option (List ℕ)) (n : ℕ) → Talks (talk_of out0 input []) out left (Ok (talked.Bad n)) → IfSome input (λ bytes. IsFirstBad (lines_of bytes) n)
unfolding EndsTalk
talks_bad out0 out input left n talks =
    let spoken = speaks_spoken (talk_of out0 input []) talks.last talks.speaks in
    bad_in input talks.last.left (prepend_known talks.kept left) talks.last n spoken.more refl spoken.put spoken.read (talks.ends.0 ∙ ap (λ put. length put + 1) spoken.put) spoken.stanzas
    (subst (λ put. length put ≤ most_lines) spoken.put talks.few) talks.ends.2

-- all lines were put
all_put : (input : Option (List ℕ)) (stanzas others : List (List ℕ)) → stanzas ≡ others → list_all is_stanza stanzas ≡ true → length stanzas ≤ most_lines → IfSome input (λ bytes. lines_of bytes ≡ others)
    → IfSome input (λ bytes. (lines_of bytes ≡ others) × (list_all is_stanza (lines_of bytes) ≡ true) × (length (lines_of bytes) ≤ most_lines))
all_put None stanzas others same good few is = tt
all_put (Some bytes) stanzas others same good few is = (is, ap (λ ls. list_all is_stanza ls) (is ∙ sym same) ∙ good, subst (λ ls. length ls ≤ most_lines) (sym (is ∙ sym same)) few)

pub close_puts : (s t u : Talk) (changed : Bool) → (spoken : Spoken s t) → length spoken.more ≤ most_lines → Takes t.left u.left inputs.End → Makes calls.Terminate changed t.out.known.mine u.out.known.mine
    → PutsAll s.left s.out.known u.out.known
unfolding Takes
close_puts s t u true spoken few end made =
    let same = stanzas_closed spoken.more spoken.said.added made.0 spoken.said.holds made.1 in
    record {
      added = spoken.said.added ++ made.0 ∷ [];
      mine = made.2 ∙ ap (λ front. front ++ made.0 ∷ []) spoken.said.mine ∙ append_assoc s.out.known.mine spoken.said.added (made.0 ∷ []);
      holds = all_put s.left spoken.more _ same spoken.stanzas few (all_read s.left t.left u.left spoken.more _ same spoken.read end);
    }
close_puts s t u false spoken few end same = record {
  added = spoken.said.added;
  mine = same ∙ spoken.said.mine;
  holds = all_put s.left spoken.more _ (sym spoken.said.holds.put) spoken.stanzas few (all_read s.left t.left u.left spoken.more _ (sym spoken.said.holds.put) spoken.read end);
}

-- a stanza is taken while the client takes any
pub put_over : (c : PlainClient) (stanza : List ℕ) → queueings.Over ≡ (put c stanza).1 → is_over c ≡ true
put_over c stanza =
    by_if {X = PlainClient × Queued} (λ p. queueings.Over ≡ p.1 → is_over c ≡ true) (is_over c) _ _ (λ over is. over)
    (λ open_yet. by_if {X = PlainClient × Queued} (λ p. queueings.Over ≡ p.1 → is_over c ≡ true) (is_full c) _ _ (λ full is. absurd (cc)) (λ room is. absurd (cc)))

pub queue_name : (done : PlainClient × Queued) (queued : Queued) → plain.ToQueue queued ≡ (called plain.ToQueue done).1 → queued ≡ done.1
queue_name (c, x) queued is = ap (λ reply. elim reply [ plain.ToQueue q ↦ q | plain.ToNext n ↦ queued | plain.ToAnswer a ↦ queued | plain.ToHandOut p ↦ queued ]) is

pub entered_none : (number : ℕ) (before after : List Entry) (made : Option Entry) (stanza : List ℕ) → Enters (calls.Put stanza) false made → Appends (λ e. e.caller) number before made after → after ≡ before
entered_none number before after None stanza enters is = is
entered_none number before after (Some e) stanza enters is = absurd (cc)

refused : (stanza : List ℕ) (old new : Known Entry) → Puts stanza queueings.Over old new → TakesNoMore new
refused stanza old new p =
    let replied = p.replied.says in
    subst (λ log. After log (λ c. is_over c ≡ true)) (sym (entered_none p.last.number p.replied.before new.seen p.replied.made stanza replied.enters p.replied.seen))
    (record { plain = replied.plain; is = replied.is; holds = put_over replied.plain stanza (queue_name (put replied.plain stanza) queueings.Over replied.reply_is) })

done_by : (s t u : Talk) (spoken : Spoken s t) → length spoken.more ≤ most_lines → EndsTalk t u (Ok talked.Done) → PutsAll s.left s.out.known u.out.known ⊎ TakesNoMore u.out.known
unfolding EndsTalk SaysBy
done_by s t u spoken few (inl (queued, closes)) =
    inl (close_puts s t u _ spoken few closes.0 (called_makes calls.Terminate (replies.Queued queued) t.out.known u.out.known closes.1))
done_by s t u spoken few (inr stops) = inr (refused stops.0 t.out.known u.out.known stops.2.0)

-- where it is done, all lines were put, or the client takes no more
pub talks_done : (out0 out : Out) (input left : Option (List ℕ)) → Talks (talk_of out0 input []) out left (Ok talked.Done) → PutsAll input out0.known out.known ⊎ TakesNoMore out.known
talks_done out0 out input left talks =
    let spoken = speaks_spoken (talk_of out0 input []) talks.last talks.speaks in
    done_by (talk_of out0 input []) talks.last (talk_of out (prepend_known talks.kept left) talks.last.put) spoken (subst (λ put. length put ≤ most_lines) spoken.put talks.few) talks.ends
