-- What talking over an input adds to the caller's entries, and how much of the input was read.
use Rattle.std.proofs.Common.{◌≡◌, ℕ, Bool, true, false, List, [], ◌∷◌, ◌++◌, ◌&&◌, ◌||◌, Some, None, inl, inr, refl, sym, ◌∙◌, ap, subst, append_assoc, append-nil}
use Rattle.std.specs.Prelude.{Option, Result, Ok, Err, IfSome}
use Rattle.std.specs.List.{list_all, list_any}
use Rattle.std.specs.Io.KnownBytes.{prepend_known}
use Rattle.std.proofs.lemmas.Grind.{flat_map-append}
use Rattle.std.proofs.lemmas.List.Folds.{list_all-append, list_any-append}
use Rattle.std.specs.declared.alloc.AllocError.{AllocError}
use Rattle.body_cutter.specs.Cutting.{is_stanza}
use Rattle.line_reader.specs.Lines.{Reads, lines_of}
use Rattle.line_reader.specs.declared.lines.NextLine.TheVariants as lines
use Rattle.parked_gate.specs.Passes.{Known}
use Rattle.client_run.specs.declared.call.Call.TheVariants as calls
use Rattle.client_run.specs.declared.call.Reply.TheVariants as replies
use Rattle.client_run.specs.declared.draining.Written.{Written}
use Rattle.client_run.specs.declared.draining.Written.TheVariants as written
use Rattle.client_run.specs.declared.entry.Entered.{Entered}
use Rattle.client_run.specs.declared.entry.Entered.TheVariants.{Setup, Called as IsCalled}
use Rattle.client_run.specs.declared.entry.Entry.{Entry}
use Rattle.client_run.specs.declared.talking.Input.TheVariants as inputs
use Rattle.client_run.specs.declared.talking.Said.{Said}
use Rattle.client_run.specs.declared.talking.Said.TheVariants as said
use Rattle.client_run.specs.declared.talking.Talked.{Talked}
use Rattle.client_run.specs.declared.talking.Talked.TheVariants as talked
use Rattle.client_run.specs.Adding.{Adds, IsTalk, by_call, is_entry, is_hand_out, is_of_talk, is_terminate, stanza_of, stanzas_in}
use Rattle.client_run.specs.Attending.{IsSpoken, Speaking}
use Rattle.client_run.specs.Handing.{Drains, Out, out_of}
use Rattle.client_run.specs.Talking.{EndsTalk, Says, Speaks, Stops, SaysBy, Takes, Talk, Talks, none, spoke, talk_of}
use Rattle.client_run.proofs.AddingLemmas.{Makes, called_makes, called_wants, drains_adds, offers_same, put_none, put_one}

-- the bytes of these lines were read, and these are left
abbrev pub HasLines : Option (List ℕ) → List (List ℕ) → Option (List ℕ) → Type 0
HasLines None stanzas left = Unit {0}
HasLines (Some bytes) stanzas None = ⊥
HasLines (Some bytes) stanzas (Some rest) = lines_of bytes ≡ stanzas ++ lines_of rest

spoken_both : (xs ys : List (List ℕ)) (es fs : List Entry) → IsSpoken xs es → IsSpoken ys fs → IsSpoken (xs ++ ys) (es ++ fs)
spoken_both xs ys es fs one two = record {
  only = list_all-append (is_entry is_of_talk) es fs ∙ ap (λ b. b && list_all (is_entry is_of_talk) fs) one.only ∙ two.only;
  open_yet = list_any-append (is_entry is_terminate) es fs ∙ ap (λ b. b || list_any (is_entry is_terminate) fs) one.open_yet ∙ two.open_yet;
  put = flat_map-append (λ e. by_call [] stanza_of e.entered) es fs ∙ ap (λ xs. xs ++ stanzas_in fs) one.put ∙ ap (λ ys. xs ++ ys) two.put;
}

-- what was handed out puts nothing
handed_entry : (x : Entered) → by_call false is_hand_out x ≡ true → (by_call false is_of_talk x ≡ true) × (by_call false is_terminate x ≡ false) × (by_call [] stanza_of x ≡ [])
handed_entry (Setup setup) is = absurd (cc)
handed_entry (IsCalled (calls.Put stanza)) is = absurd (cc)
handed_entry (IsCalled calls.Restart) is = absurd (cc)
handed_entry (IsCalled (calls.Pause seconds)) is = absurd (cc)
handed_entry (IsCalled calls.Terminate) is = absurd (cc)
handed_entry (IsCalled (calls.Next now)) is = absurd (cc)
handed_entry (IsCalled (calls.Answer rid body now)) is = absurd (cc)
handed_entry (IsCalled calls.HandOut) is = (refl, refl, refl)

and_first : (a b : Bool) → (a && b) ≡ true → a ≡ true
and_first true b is = refl
and_first false b is = is

and_second : (a b : Bool) → (a && b) ≡ true → b ≡ true
and_second true b is = is
and_second false b is = absurd (cc)

pub handed_spoken : (es : List Entry) → list_all (is_entry is_hand_out) es ≡ true → IsSpoken [] es
handed_spoken [] is = record { only = refl; open_yet = refl; put = refl }
handed_spoken (e ∷ es) is =
    let first = handed_entry e.entered (and_first (is_entry is_hand_out e) (list_all (is_entry is_hand_out) es) is) in
    let rest = handed_spoken es (and_second (is_entry is_hand_out e) (list_all (is_entry is_hand_out) es) is) in
    record {
      only = ap (λ b. b && list_all (is_entry is_of_talk) es) first.0 ∙ rest.only;
      open_yet = ap (λ b. b || list_any (is_entry is_terminate) es) first.1 ∙ rest.open_yet;
      put = ap (λ xs. xs ++ stanzas_in es) first.2 ∙ rest.put;
    }

pub put_spoken : (stanza : List ℕ) (e : Entry) → e.entered ≡ IsCalled (calls.Put stanza) → IsSpoken (stanza ∷ []) (e ∷ [])
put_spoken stanza e is = record {
  only = ap (λ x. by_call false is_of_talk x && true) is;
  open_yet = ap (λ x. by_call false is_terminate x || false) is;
  put = ap (λ x. by_call [] stanza_of x ++ []) is;
}

pub nothing_said : (known : Known Entry) → Speaking known known []
nothing_said known = record { added = []; mine = sym (append-nil known.mine); holds = record { only = refl; open_yet = refl; put = refl } }

pub same_said : (old new : Known Entry) → new.mine ≡ old.mine → Speaking old new []
same_said old new same = record { added = []; mine = same ∙ sym (append-nil old.mine); holds = record { only = refl; open_yet = refl; put = refl } }

pub said_both : (a b c : Known Entry) (xs ys : List (List ℕ)) → Speaking a b xs → Speaking b c ys → Speaking a c (xs ++ ys)
said_both a b c xs ys one two = record {
  added = one.added ++ two.added;
  mine = two.mine ∙ ap (λ front. front ++ two.added) one.mine ∙ append_assoc a.mine one.added two.added;
  holds = spoken_both xs ys one.added two.added one.holds two.holds;
}

pub drains_said : (s t : Out) (result : Result Written AllocError) → Drains s t result → Speaking s.known t.known []
drains_said s t result d =
    let adds = drains_adds s t result d in
    record { added = adds.added; mine = adds.mine; holds = handed_spoken adds.added adds.holds }

says_said : (stanza : List ℕ) (s t : Out) (result : Result Written AllocError) → Says stanza s t result → Speaking s.known t.known (stanza ∷ [])
says_said stanza s t result says =
    let made = put_one stanza s.known says.put says.puts in
    said_both s.known says.put t.known (stanza ∷ []) [] (record { added = made.0 ∷ []; mine = made.2; holds = put_spoken stanza made.0 made.1 })
    (drains_said (out_of says.put s.given) t result says.drains)

-- one more line was read
pub has_line : (input left later : Option (List ℕ)) (stanzas : List (List ℕ)) (stanza : List ℕ) → HasLines input stanzas left → Reads left later (lines.Line stanza) → HasLines input (stanzas ++ stanza ∷ []) later
has_line None left later stanzas stanza has reads = tt
has_line (Some bytes) None later stanzas stanza has reads = absurd has
has_line (Some bytes) (Some rest) None stanzas stanza has reads = absurd reads
has_line (Some bytes) (Some rest) (Some rest') stanzas stanza has reads =
    has ∙ ap (λ ls. stanzas ++ ls) reads.0 ∙ sym (append_assoc stanzas (stanza ∷ []) (lines_of rest'))

pub no_lines : (input : Option (List ℕ)) → HasLines input [] input
no_lines None = tt
no_lines (Some bytes) = refl

-- what was said and read so far
pub record Spoken (s t : Talk) : Type 0 where
  pub more : List (List ℕ)
  pub put : t.put ≡ s.put ++ more
  pub said : Speaking s.out.known t.out.known more
  pub stanzas : list_all is_stanza more ≡ true
  pub read : HasLines s.left more t.left

pub speaks_spoken : (s t : Talk) → Speaks s t → Spoken s t
unfolding Takes
speaks_spoken s t none = record { more = []; put = sym (append-nil s.put); said = nothing_said s.out.known; stanzas = refl; read = no_lines s.left }
speaks_spoken s t (spoke {t = mid} out left stanza speaks takes says) =
    let before = speaks_spoken s mid speaks in
    record {
      more = before.more ++ stanza ∷ [];
      put = ap (λ front. front ++ stanza ∷ []) before.put ∙ append_assoc s.put before.more (stanza ∷ []);
      said = said_both s.out.known mid.out.known out.known before.more (stanza ∷ []) before.said (says_said stanza mid.out out (Ok written.Done) says);
      stanzas = list_all-append is_stanza before.more (stanza ∷ []) ∙ ap (λ b. b && list_all is_stanza (stanza ∷ [])) before.stanzas ∙ ap (λ b. b && true) takes.1;
      read = has_line s.left mid.left left before.more stanza before.read takes.0;
    }

-- entries of talking that have no terminate
open_talk : (input left : Option (List ℕ)) (stanzas : List (List ℕ)) (added : List Entry) → IsSpoken stanzas added → list_all is_stanza stanzas ≡ true → HasLines input stanzas left → IsTalk input added
open_talk input left stanzas added spoken good has = record {
  only = spoken.only;
  stanzas = ap (λ xs. list_all is_stanza xs) spoken.put ∙ good;
  lines = front_of input left stanzas (stanzas_in added) (sym spoken.put) has;
  closes = inl spoken.open_yet;
}
  where
    front_of : (input left : Option (List ℕ)) (stanzas others : List (List ℕ)) → stanzas ≡ others → HasLines input stanzas left
        → IfSome input (λ bytes. (rest : List (List ℕ)) × (lines_of bytes ≡ others ++ rest))
    front_of None left stanzas others same has = tt
    front_of (Some bytes) None stanzas others same has = absurd has
    front_of (Some bytes) (Some rest) stanzas others same has = (lines_of rest, has ∙ ap (λ xs. xs ++ lines_of rest) same)

-- all lines were put, where no line is left
pub all_read : (input left later : Option (List ℕ)) (stanzas others : List (List ℕ)) → stanzas ≡ others → HasLines input stanzas left → Reads left later lines.NoLine → IfSome input (λ bytes. lines_of bytes ≡ others)
all_read None left later stanzas others same has end = tt
all_read (Some bytes) None later stanzas others same has end = absurd has
all_read (Some bytes) (Some rest) None stanzas others same has end = absurd end
all_read (Some bytes) (Some rest) (Some rest') stanzas others same has end = has ∙ ap (λ ls. stanzas ++ ls) end ∙ append-nil stanzas ∙ same

with_rest : (input : Option (List ℕ)) (others : List (List ℕ)) → IfSome input (λ bytes. lines_of bytes ≡ others) → IfSome input (λ bytes. (rest : List (List ℕ)) × (lines_of bytes ≡ others ++ rest))
with_rest None others is = tt
with_rest (Some bytes) others is = ([], is ∙ sym (append-nil others))

-- a terminate behind entries puts nothing
pub stanzas_closed : (stanzas : List (List ℕ)) (es : List Entry) (e : Entry) → IsSpoken stanzas es → e.entered ≡ IsCalled calls.Terminate → stanzas ≡ stanzas_in (es ++ e ∷ [])
stanzas_closed stanzas es e spoken is = sym (flat_map-append (λ e. by_call [] stanza_of e.entered) es (e ∷ []) ∙ ap (λ xs. xs ++ stanzas_in (e ∷ [])) spoken.put ∙ ap (λ x. stanzas ++ (by_call [] stanza_of x ++ [])) is ∙ append-nil stanzas)

closed_talk : (input left later : Option (List ℕ)) (stanzas : List (List ℕ)) (es : List Entry) (e : Entry) → IsSpoken stanzas es → list_all is_stanza stanzas ≡ true → HasLines input stanzas left
    → Reads left later lines.NoLine → e.entered ≡ IsCalled calls.Terminate → IsTalk input (es ++ e ∷ [])
closed_talk input left later stanzas es e spoken good has end is = record {
  only = list_all-append (is_entry is_of_talk) es (e ∷ []) ∙ ap (λ b. b && list_all (is_entry is_of_talk) (e ∷ [])) spoken.only ∙ ap (λ x. by_call false is_of_talk x && true) is;
  stanzas = ap (λ xs. list_all is_stanza xs) (sym same) ∙ good;
  lines = with_rest input (stanzas_in (es ++ e ∷ [])) (all_read input left later stanzas (stanzas_in (es ++ e ∷ [])) same has end);
  closes = inr (all_read input left later stanzas (stanzas_in (es ++ e ∷ [])) same has end);
}
  where
    same : stanzas ≡ stanzas_in (es ++ e ∷ [])
    same = stanzas_closed stanzas es e spoken is

-- where the entries are those of the lines that were put, and perhaps of one more
abbrev pub TalkAdds : Talk → Known Entry → Type 0
TalkAdds s known = Adds s.out.known known (IsTalk s.left)

pub open_adds : (s t : Talk) (known : Known Entry) (left : Option (List ℕ)) (more : List (List ℕ)) → (spoken : Spoken s t) → Speaking t.out.known known more
    → list_all is_stanza (spoken.more ++ more) ≡ true → HasLines s.left (spoken.more ++ more) left → TalkAdds s known
open_adds s t known left more spoken speaking good has =
    let both = said_both s.out.known t.out.known known spoken.more more spoken.said speaking in
    record { added = both.added; mine = both.mine; holds = open_talk s.left left (spoken.more ++ more) both.added both.holds good has }

-- nothing more was put
still_adds : (s t : Talk) (known : Known Entry) → Spoken s t → known.mine ≡ t.out.known.mine → TalkAdds s known
still_adds s t known spoken same =
    open_adds s t known t.left [] spoken (same_said t.out.known known same) (ap (λ xs. list_all is_stanza xs) (append-nil spoken.more) ∙ spoken.stanzas)
    (subst (λ xs. HasLines s.left xs t.left) (sym (append-nil spoken.more)) spoken.read)

-- one more stanza was put
more_adds : (s t : Talk) (out : Out) (later : Option (List ℕ)) (stanza : List ℕ) (result : Result Written AllocError) → Spoken s t → Takes t.left later (inputs.Stanza stanza) → Says stanza t.out out result → TalkAdds s out.known
unfolding Takes
more_adds s t out later stanza result spoken takes says =
    open_adds s t out.known later (stanza ∷ []) spoken (says_said stanza t.out out result says)
    (list_all-append is_stanza spoken.more (stanza ∷ []) ∙ ap (λ b. b && list_all is_stanza (stanza ∷ [])) spoken.stanzas ∙ ap (λ b. b && true) takes.1)
    (has_line s.left t.left later spoken.more stanza spoken.read takes.0)

stop_adds : (s t u : Talk) (result : Result Said AllocError) → Spoken s t → Stops t u result → TalkAdds s u.out.known
unfolding SaysBy
stop_adds s t u (Ok said.Done) spoken stops = more_adds s t u.out u.left stops.0 (Ok written.Done) spoken stops.1 stops.2
stop_adds s t u (Ok said.Over) spoken stops = still_adds s t u.out.known spoken (put_none stops.0 t.out.known u.out.known stops.2.0)
stop_adds s t u (Ok said.WriteFault) spoken stops = more_adds s t u.out u.left stops.0 (Ok written.WriteFault) spoken stops.1 stops.2
stop_adds s t u (Err error) spoken (stanza, takes, inl says) = more_adds s t u.out u.left stanza (Err error) spoken takes says
stop_adds s t u (Err error) spoken (stanza, takes, inr offers) = still_adds s t u.out.known spoken (offers_same stanza t.out.known u.out.known offers.0)

pub close_adds : (s t u : Talk) (changed : Bool) → Spoken s t → Takes t.left u.left inputs.End → Makes calls.Terminate changed t.out.known.mine u.out.known.mine → TalkAdds s u.out.known
unfolding Takes
close_adds s t u true spoken end made = record {
  added = spoken.said.added ++ made.0 ∷ [];
  mine = made.2 ∙ ap (λ front. front ++ made.0 ∷ []) spoken.said.mine ∙ append_assoc s.out.known.mine spoken.said.added (made.0 ∷ []);
  holds = closed_talk s.left t.left u.left spoken.more spoken.said.added made.0 spoken.said.holds spoken.stanzas spoken.read end made.1;
}
close_adds s t u false spoken end same = still_adds s t u.out.known spoken same

ends_adds : (s t u : Talk) (result : Result Talked AllocError) → Spoken s t → EndsTalk t u result → TalkAdds s u.out.known
unfolding EndsTalk
ends_adds s t u (Ok talked.Done) spoken (inl (queued, closes)) =
    close_adds s t u _ spoken closes.0 (called_makes calls.Terminate (replies.Queued queued) t.out.known u.out.known closes.1)
ends_adds s t u (Ok talked.Done) spoken (inr stops) = stop_adds s t u (Ok said.Over) spoken stops
ends_adds s t u (Ok (talked.Bad n)) spoken ends = still_adds s t u.out.known spoken (ap (λ out. out.known.mine) ends.1)
ends_adds s t u (Ok talked.ReadFault) spoken ends = still_adds s t u.out.known spoken (ap (λ out. out.known.mine) ends)
ends_adds s t u (Ok talked.WriteFault) spoken ends = stop_adds s t u (Ok said.WriteFault) spoken ends
ends_adds s t u (Err error) spoken (inl same) = still_adds s t u.out.known spoken (ap (λ out. out.known.mine) same)
ends_adds s t u (Err error) spoken (inr (inl stops)) = stop_adds s t u (Err error) spoken stops
ends_adds s t u (Err error) spoken (inr (inr closes)) = still_adds s t u.out.known spoken (called_wants calls.Terminate error t.out.known u.out.known closes.1)

-- what talking adds to the caller's entries
pub talks_adds : (s : Talk) (out : Out) (left : Option (List ℕ)) (result : Result Talked AllocError) → Talks s out left result → TalkAdds s out.known
talks_adds s out left result talks =
    ends_adds s talks.last (talk_of out (prepend_known talks.kept left) talks.last.put) result (speaks_spoken s talks.last talks.speaks) talks.ends
