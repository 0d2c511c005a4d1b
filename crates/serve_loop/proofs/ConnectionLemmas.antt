-- What a move of a connection adds to what others see of it.
use Rattle.std.proofs.Common.{◌≡◌, ℕ, List, [], ◌∷◌, ◌++◌, Bool, true, false, All, ◌⊎◌, Option, Some, None, Result, Ok, Err, inl, inr, refl, sym, ◌∙◌, ap, subst, append_assoc, append-nil, true≢false}
use Rattle.std.proofs.KnownBytes.{Appends-trans, Appends-kept, Appends-nil, Keeps-refl, Keeps-trans}
use Rattle.std.proofs.lemmas.List.{map_push}
use Rattle.std.proofs.lemmas.List.Elements.{All-nil, All-push}
use Rattle.std.proofs.lemmas.Grind.{flat_map-append}
use Rattle.std.specs.Io.KnownBytes.{Appends, Keeps, prepend_known}
use Rattle.bosh_http.specs.Reading.{Reads}
use Rattle.bosh_http.specs.Taking.{TakesMore}
use Rattle.bosh_http.specs.declared.reading.HttpIn.TheVariants as http
use Rattle.bosh_http.specs.declared.refusal.HttpRefusal.{HttpRefusal}
use Rattle.bosh_http.proofs.ReadingLemmas.{keeps_by}
use Rattle.bosh_ports.specs.Faults.{HasRisen}
use Rattle.bosh_ports.specs.Sink.{AppendsFront}
use Rattle.session_table.specs.declared.purse.Purse.{Purse}
use Rattle.serve_loop.specs.declared.answering.Answering.{Answering}
use Rattle.serve_loop.specs.declared.answering.Answering.TheVariants as answering
use Rattle.serve_loop.specs.declared.answering.Waiting.{Waiting}
use Rattle.serve_loop.specs.declared.connection.ConnectionEnd.{ConnectionEnd}
use Rattle.serve_loop.specs.declared.connection.ConnectionEnd.TheVariants as ends
use Rattle.serve_loop.specs.declared.connection.Stage.{Stage}
use Rattle.serve_loop.specs.declared.connection.Stage.TheVariants as stages
use Rattle.serve_loop.specs.declared.owed.Owed.{Owed}
use Rattle.serve_loop.specs.declared.owed.Owed.TheVariants as owed
use Rattle.serve_loop.specs.declared.trail.Evidence.TheVariants as evidence
use Rattle.serve_loop.specs.declared.trail.Traced.{Traced}
use Rattle.serve_loop.specs.declared.trail.TrailLine.TheVariants as lines
use Rattle.serve_loop.specs.Answering.{Answers, Collects, IsLost, IsUnanswered, IsWaiting}
use Rattle.serve_loop.specs.Trail.{Setting}
use Rattle.serve_loop.specs.Connections.{Answered, Ends, EndsItself, Exchange, Follows, Gave, HasAnswer, HasRead, HasRefused, IsAskedOr, LacksMemory, Moves, Outside, Owes, ReadsOff, Stands, TellsTruth, closes, end_after, lines_of, message, message_of, messages, stage_after, stage_behind}
use Rattle.serve_loop.proofs.EffectLemmas.{adds_nothing_same}

-- nothing was given or called, and no fault came
pub still : (site : Setting) (start old new : Outside) (es : List Exchange) → Answered site start es old → Keeps old.given new.given → new.trail ≡ old.trail
    → new.purse ≡ old.purse → new.faults ≡ old.faults → Answered site start es (record new { stream = old.stream })
still site start old new es a keeps trail purse faults = record {
  reads = a.reads;
  gave = Appends-kept start.given old.given new.given (messages es) a.gave keeps;
  told = trail ∙ a.told;
  true_of = a.true_of;
  follows = subst (Follows start.purse es) (sym purse) a.follows;
  going = a.going;
  faults = faults ∙ a.faults;
}

-- ---- reading

pub moves_to_request : (site : Setting) (old new : Outside) (body : List ℕ) (closing : Bool) (stage : Stage) → Reads old.stream new.stream (http.Request body closing)
    → Keeps old.given new.given → new.trail ≡ old.trail → new.purse ≡ old.purse → new.faults ≡ old.faults → IsAskedOr body closing stage
    → Moves site old new stages.Reading stage
moves_to_request site old new body closing stage reads keeps trail purse faults (inl is) start (es, a) =
    subst (Stands site start new) (sym is)
    (record { exchanges = es; stream = old.stream; answered = still site start old new es a keeps trail purse faults; reads = reads })
moves_to_request site old new body closing stage reads keeps trail purse faults (inr is) start (es, a) =
    subst (Stands site start new) (sym is) (record {
      exchanges = es;
      stream = old.stream;
      purse = new.purse;
      answered = still site start old new es a keeps trail purse faults;
      came = inr (body, closing, reads, inl (adds_nothing_same new.purse new.purse refl));
    })

pub moves_to_refusal : (site : Setting) (old new : Outside) (refusal : HttpRefusal) (stage : Stage) → Reads old.stream new.stream (http.Refused refusal)
    → Keeps old.given new.given → new.purse ≡ old.purse → new.faults ≡ old.faults → stage ≡ stages.Owing (owed.Refusal refusal)
    → new.trail ≡ old.trail ++ record { line = lines.Http refusal; evidence = evidence.Request } ∷ [] → Moves site old new stages.Reading stage
moves_to_refusal site old new refusal stage reads keeps purse faults is told start (es, a) =
    subst (Stands site start new) (sym is)
    (record { exchanges = es; stream = old.stream; trail = old.trail; answered = still site start old (record new { trail = old.trail }) es a keeps refl purse faults; reads = reads; tells = told })

pub moves_to_end : (site : Setting) (old new : Outside) → Reads old.stream new.stream http.End → Keeps old.given new.given → new.trail ≡ old.trail
    → new.purse ≡ old.purse → new.faults ≡ old.faults → Moves site old new stages.Reading (stages.Over ends.Ended)
moves_to_end site old new reads keeps trail purse faults start (es, a) =
    inl (record { exchanges = es; stream = old.stream; answered = still site start old new es a keeps trail purse faults; reads = reads })

pub moves_to_fault : (site : Setting) (old new : Outside) → Reads old.stream new.stream http.ReadFault → Keeps old.given new.given → new.trail ≡ old.trail
    → new.purse ≡ old.purse → HasRisen old.faults new.faults → Moves site old new stages.Reading (stages.Over ends.ReadFault)
moves_to_fault site old new reads keeps trail purse risen start (es, a) = record {
  exchanges = es;
  stream = old.stream;
  answered = still site start old (record new { faults = start.faults }) es a keeps trail purse (sym a.faults);
  reads = reads;
  risen = subst (λ n. HasRisen n new.faults) a.faults risen;
}

pub moves_to_want : (site : Setting) (left left' given given' : Option (List ℕ)) (kept kept' : List ℕ) (trail : List Traced) (purse : Purse) (n m : ℕ)
    → TakesMore left left' kept kept' → Keeps given given' → m ≡ n
    → Moves site (record { stream = prepend_known kept left; given = given; trail = trail; purse = purse; faults = n })
    (record { stream = prepend_known kept' left'; given = given'; trail = trail; purse = purse; faults = m }) stages.Reading (stages.Owing owed.NoMemory)
moves_to_want site left left' given given' kept kept' trail purse n m more keeps same start (es, a) = record {
  exchanges = es;
  stream = prepend_known kept left;
  purse = purse;
  answered = still site start (record { stream = prepend_known kept left; given = given; trail = trail; purse = purse; faults = n })
      (record { stream = prepend_known kept' left'; given = given'; trail = trail; purse = purse; faults = m }) es a keeps refl refl same;
  came = inl (keeps_by left left' kept kept' more, refl);
}

-- ---- writing

reads_kept : (stream s s' : Option (List ℕ)) (body : List ℕ) (closing : Bool) → Reads stream s (http.Request body closing) → Keeps s s' → Reads stream s' (http.Request body closing)
reads_kept None s s' body closing reads keeps = tt
reads_kept (Some bytes) None s' body closing reads keeps = elim reads [ ]
reads_kept (Some bytes) (Some xs) None body closing reads keeps = keeps
reads_kept (Some bytes) (Some xs) (Some ys) body closing reads keeps = (reads.0, reads.1, keeps ∙ reads.2)

refusal_kept : (stream s s' : Option (List ℕ)) (refusal : HttpRefusal) → Reads stream s (http.Refused refusal) → Keeps s s' → Reads stream s' (http.Refused refusal)
refusal_kept None s s' refusal reads keeps = tt
refusal_kept (Some bytes) None s' refusal reads keeps = elim reads [ ]
refusal_kept (Some bytes) (Some xs) None refusal reads keeps = keeps
refusal_kept (Some bytes) (Some xs) (Some ys) refusal reads keeps = (reads.0, keeps ∙ reads.1)

pub keeps_prepended : (kept : List ℕ) (left left' : Option (List ℕ)) → Keeps left left' → Keeps (prepend_known kept left) (prepend_known kept left')
keeps_prepended kept None left' keeps = tt
keeps_prepended kept (Some xs) None keeps = keeps
keeps_prepended kept (Some xs) (Some ys) keeps = ap (λ b. kept ++ b) keeps

-- one exchange more
reads_off_more : (stream between rest : Option (List ℕ)) (es : List Exchange) (e : Exchange) → ReadsOff stream es between → Reads between rest (http.Request e.body e.closing) → ReadsOff stream (es ++ e ∷ []) rest
reads_off_more None between rest [] e before reads = (None, tt, tt)
reads_off_more (Some bytes) None rest [] e before reads = elim before [ ]
reads_off_more (Some bytes) (Some xs) rest [] e before reads = (rest, subst (λ b. Reads (Some b) rest (http.Request e.body e.closing)) before reads, Keeps-refl rest)
reads_off_more stream between rest (first ∷ es) e before reads = (before.0, before.1, reads_off_more before.0 between rest es e before.2 reads)

messages_more : (es : List Exchange) (e : Exchange) → messages (es ++ e ∷ []) ≡ messages es ++ message_of e
messages_more es e = flat_map-append message_of es (e ∷ []) ∙ ap (λ m. messages es ++ m) (append-nil (message_of e))

-- what others see after a write: the stream is the same where it is told
abbrev pub after_write : Option (List ℕ) → Option (List ℕ) → List Traced → Purse → ℕ → Outside
after_write stream given trail purse faults = record { stream = stream; given = given; trail = trail; purse = purse; faults = faults }

follows_more : (first between last : Purse) (es : List Exchange) (e : Exchange) → Follows first es between → e.before ≡ between → last ≡ e.after → Follows first (es ++ e ∷ []) last
follows_more first between last [] e before begins ends = (begins ∙ before, ends)
follows_more first between last (x ∷ es) e before begins ends = (before.0, follows_more x.after between last es e before.1 begins ends)

-- an answer was given, after which the connection goes on
goes_on : (site : Setting) (start : Outside) (s s' given given' : Option (List ℕ)) (trail : List Traced) (purse : Purse) (n m : ℕ) (text : List ℕ) → HasAnswer site start (after_write s given trail purse n) text false → Appends given given' (message (owed.Answer text false)) → Keeps s s' → m ≡ n → (es : List Exchange) × Answered site start es (after_write s' given' trail purse m)
goes_on site start s s' given given' trail purse n m text h gave keeps same =
    let e : Exchange = record { body = h.body; closing = false; text = text; traced = h.traced; before = h.purse; after = purse } in (
      h.exchanges ++ e ∷ [],
      record {
        reads = reads_off_more start.stream h.stream s' h.exchanges e h.answered.reads (reads_kept h.stream s s' h.body false h.reads keeps);
        gave = subst (Appends start.given given') (sym (messages_more h.exchanges e)) (Appends-trans start.given given given' (messages h.exchanges) (message_of e) h.answered.gave gave);
        told = h.tells ∙ ap (λ t. t ++ h.traced ∷ []) h.answered.told ∙ append_assoc start.trail (lines_of h.exchanges) (h.traced ∷ []) ∙ ap (λ t. start.trail ++ t) (sym (map_push (λ e. e.traced) h.exchanges e));
        true_of = All-push (TellsTruth site) h.exchanges e h.answered.true_of h.true_of;
        follows = follows_more start.purse h.purse purse h.exchanges e h.answered.follows refl refl;
        going = All-push (λ e. e.closing ≡ false) h.exchanges e h.answered.going refl;
        faults = same ∙ h.answered.faults;
      },
    )

-- what is owed is owed on
pub owes_on : (site : Setting) (start : Outside) (s s' given : Option (List ℕ)) (trail : List Traced) (purse : Purse) (n m : ℕ) (what : Owed) → Keeps s s' → m ≡ n → Owes site start (after_write s given trail purse n) what → Owes site start (after_write s' given trail purse m) what
owes_on site start s s' given trail purse n m (owed.Answer text closing) keeps same h = record {
  exchanges = h.exchanges;
  stream = h.stream;
  trail = h.trail;
  body = h.body;
  traced = h.traced;
  purse = h.purse;
  answered = subst (λ k. Answered site start h.exchanges (after_write h.stream given h.trail h.purse k)) (sym same) h.answered;
  reads = reads_kept h.stream s s' h.body closing h.reads keeps;
  tells = h.tells;
  true_of = h.true_of;
}
owes_on site start s s' given trail purse n m (owed.Refusal refusal) keeps same h = record {
  exchanges = h.exchanges;
  stream = h.stream;
  trail = h.trail;
  answered = subst (λ k. Answered site start h.exchanges (after_write h.stream given h.trail purse k)) (sym same) h.answered;
  reads = refusal_kept h.stream s s' refusal h.reads keeps;
  tells = h.tells;
}
owes_on site start s s' given trail purse n m owed.NoMemory keeps same h = record {
  exchanges = h.exchanges;
  stream = h.stream;
  purse = h.purse;
  answered = subst (λ k. Answered site start h.exchanges (after_write h.stream given trail h.purse k)) (sym same) h.answered;
  came = came_on h.came;
}
  where
    came_on : (Keeps h.stream s × (purse ≡ h.purse)) ⊎ ((body : List ℕ) × (closing : Bool) × Reads h.stream s (http.Request body closing) × IsLost site body h.purse purse)
        → (Keeps h.stream s' × (purse ≡ h.purse)) ⊎ ((body : List ℕ) × (closing : Bool) × Reads h.stream s' (http.Request body closing) × IsLost site body h.purse purse)
    came_on (inl (kept, none)) = inl (Keeps-trans h.stream s s' kept keeps, none)
    came_on (inr (body, closing, reads, left)) = inr (body, closing, reads_kept h.stream s s' body closing reads keeps, left)

-- no fault came so far
owes_none : (site : Setting) (start now : Outside) (what : Owed) → Owes site start now what → now.faults ≡ start.faults
owes_none site start now (owed.Answer text closing) owes = owes.answered.faults
owes_none site start now (owed.Refusal refusal) owes = owes.answered.faults
owes_none site start now owed.NoMemory owes = owes.answered.faults

-- what was given closes the connection
closed_by : (site : Setting) (start now : Outside) (what : Owed) → closes what ≡ true → Gave site start now what → Stands site start now (stages.Over (end_after what))
closed_by site start now (owed.Answer text closing) is gave = inr (inl (text, subst (λ c. Gave site start now (owed.Answer text c)) is gave))
closed_by site start now (owed.Refusal refusal) is gave = inr (inr (refusal, gave))
closed_by site start now owed.NoMemory is gave = gave

moves_closing : (site : Setting) (s s' given given' : Option (List ℕ)) (trail : List Traced) (purse : Purse) (n m : ℕ) (what : Owed) → Keeps s s' → Appends given given' (message what) → m ≡ n → closes what ≡ true → Moves site (after_write s given trail purse n) (after_write s' given' trail purse m) (stages.Owing what) (stages.Over (end_after what))
moves_closing site s s' given given' trail purse n m what keeps gave same closing start owes =
    closed_by site start (after_write s' given' trail purse m) what closing
    (record { given = given; owes = owes_on site start s s' given trail purse n m what keeps same owes; gave = gave })

moves_open : (site : Setting) (s s' given given' : Option (List ℕ)) (trail : List Traced) (purse : Purse) (n m : ℕ) (what : Owed) → Keeps s s' → Appends given given' (message what) → m ≡ n → closes what ≡ false → Moves site (after_write s given trail purse n) (after_write s' given' trail purse m) (stages.Owing what) stages.Reading
moves_open site s s' given given' trail purse n m (owed.Answer text closing) keeps gave same is start owes =
    goes_on site start s s' given given' trail purse n m text (subst (HasAnswer site start (after_write s given trail purse n) text) is owes) (subst (λ c. Appends given given' (message (owed.Answer text c))) is gave) keeps same
moves_open site s s' given given' trail purse n m (owed.Refusal refusal) keeps gave same is start owes = elim (true≢false is) [ ]
moves_open site s s' given given' trail purse n m owed.NoMemory keeps gave same is start owes = elim (true≢false is) [ ]

pub moves_given : (site : Setting) (s s' given given' : Option (List ℕ)) (trail : List Traced) (purse : Purse) (n m : ℕ) (what : Owed) → Keeps s s' → Appends given given' (message what) → m ≡ n → Moves site (after_write s given trail purse n) (after_write s' given' trail purse m) (stages.Owing what) (stage_behind what)
moves_given site s s' given given' trail purse n m (owed.Answer text true) keeps gave same = moves_closing site s s' given given' trail purse n m (owed.Answer text true) keeps gave same refl
moves_given site s s' given given' trail purse n m (owed.Answer text false) keeps gave same = moves_open site s s' given given' trail purse n m (owed.Answer text false) keeps gave same refl
moves_given site s s' given given' trail purse n m (owed.Refusal refusal) keeps gave same = moves_closing site s s' given given' trail purse n m (owed.Refusal refusal) keeps gave same refl
moves_given site s s' given given' trail purse n m owed.NoMemory keeps gave same = moves_closing site s s' given given' trail purse n m owed.NoMemory keeps gave same refl

pub moves_failing : (site : Setting) (s s' given given' : Option (List ℕ)) (trail : List Traced) (purse : Purse) (n m : ℕ) (what : Owed) → Keeps s s' → AppendsFront given given' (message what) → HasRisen n m → Moves site (after_write s given trail purse n) (after_write s' given' trail purse m) (stages.Owing what) (stages.Over ends.WriteFault)
moves_failing site s s' given given' trail purse n m what keeps front risen start owes =
    let same = owes_none site start (after_write s given trail purse n) what owes in record {
      what = what;
      given = given;
      owes = owes_on site start s s' given trail purse n start.faults what keeps (sym same) owes;
      front = front;
      risen = subst (λ k. HasRisen k m) same risen;
    }

-- ---- asking

-- the same where the trail is the same
read_by : (site : Setting) (start : Outside) (stream given : Option (List ℕ)) (trail trail' : List Traced) (purse : Purse) (n : ℕ) (body : List ℕ) (closing : Bool) → trail' ≡ trail
    → HasRead site start (after_write stream given trail purse n) body closing → HasRead site start (after_write stream given trail' purse n) body closing
read_by site start stream given trail trail' purse n body closing same read = subst (λ t. HasRead site start (after_write stream given t purse n) body closing) (sym same) read

-- a request that was read is answered, waits, or is taken elsewhere
pub moves_asked : (site : Setting) (stream given : Option (List ℕ)) (trail trail' : List Traced) (purse purse' : Purse) (n : ℕ) (body : List ℕ) (closing : Bool) (what : Answering)
    → Answers site body trail trail' purse purse' what
    → Moves site (after_write stream given trail purse n) (after_write stream given trail' purse' n) (stages.Asked body closing) (stage_after what closing false)
moves_asked site stream given trail trail' purse purse' n body closing (answering.Now text) tells start read = record {
  exchanges = read.exchanges;
  stream = read.stream;
  trail = trail;
  body = body;
  traced = tells.traced;
  purse = purse;
  answered = read.answered;
  reads = read.reads;
  tells = tells.grew;
  true_of = tells.true_of;
}
moves_asked site stream given trail trail' purse purse' n body closing (answering.Waits w) (same, waits) start read =
    record { body = body; purse = purse; read = read_by site start stream given trail trail' purse n body closing same read; waits = waits; looks = tt }
moves_asked site stream given trail trail' purse purse' n body closing answering.Superseded none start read = elim none [ ]

-- there was no memory for a request that was read
wanting : (site : Setting) (start : Outside) (stream given : Option (List ℕ)) (trail trail' : List Traced) (purse purse' : Purse) (n : ℕ) (body : List ℕ) (closing : Bool) → trail' ≡ trail
    → IsLost site body purse purse' → HasRead site start (after_write stream given trail purse n) body closing → LacksMemory site start (after_write stream given trail' purse' n)
wanting site start stream given trail trail' purse purse' n body closing same left read =
    let now = read_by site start stream given trail trail' purse n body closing same read in
    record { exchanges = now.exchanges; stream = now.stream; purse = purse; answered = now.answered; came = inr (body, closing, now.reads, left) }

pub moves_wanting : (site : Setting) (stream given : Option (List ℕ)) (trail trail' : List Traced) (purse purse' : Purse) (n : ℕ) (body : List ℕ) (closing : Bool) → trail' ≡ trail
    → IsLost site body purse purse'
    → Moves site (after_write stream given trail purse n) (after_write stream given trail' purse' n) (stages.Asked body closing) (stages.Owing owed.NoMemory)
moves_wanting site stream given trail trail' purse purse' n body closing same lost start read =
    wanting site start stream given trail trail' purse purse' n body closing same lost read

-- ---- looking for an answer

pub moves_collected : (site : Setting) (stream given : Option (List ℕ)) (trail trail' : List Traced) (purse purse' : Purse) (n : ℕ) (w : Waiting) (closing looked : Bool) (what : Answering)
    → ((body : List ℕ) (before : Purse) → IsWaiting site before purse body w → Collects site body trail trail' before purse' w what)
    → Moves site (after_write stream given trail purse n) (after_write stream given trail' purse' n) (stages.Waiting w closing looked) (stage_after what closing true)
moves_collected site stream given trail trail' purse purse' n w closing looked (answering.Now text) collects start waits =
    let tells = collects waits.body waits.purse waits.waits in record {
      exchanges = waits.read.exchanges;
      stream = waits.read.stream;
      trail = trail;
      body = waits.body;
      traced = tells.traced;
      purse = waits.purse;
      answered = waits.read.answered;
      reads = waits.read.reads;
      tells = tells.grew;
      true_of = tells.true_of;
    }
moves_collected site stream given trail trail' purse purse' n w closing looked (answering.Waits again) collects start waits =
    let more = collects waits.body waits.purse waits.waits in record {
      body = waits.body;
      purse = waits.purse;
      read = read_by site start stream given trail trail' waits.purse n waits.body closing more.1 waits.read;
      waits = subst (IsWaiting site waits.purse purse' waits.body) (sym more.0) more.2;
      looks = subst (IsUnanswered purse'.sessions) (sym more.0) more.3;
    }
moves_collected site stream given trail trail' purse purse' n w closing looked answering.Superseded collects start waits =
    let more = collects waits.body waits.purse waits.waits in record {
      body = waits.body;
      closing = closing;
      w = w;
      purse = waits.purse;
      read = read_by site start stream given trail trail' waits.purse n waits.body closing more.0 waits.read;
      taken = more.1;
    }

-- ---- the whole

pub nothing_yet : (site : Setting) (now : Outside) → Answered site now [] now
nothing_yet site now = record {
  reads = Keeps-refl now.stream;
  gave = Appends-nil now.given;
  told = sym (append-nil now.trail);
  true_of = All-nil (TellsTruth site);
  follows = refl;
  going = All-nil (λ e. e.closing ≡ false);
  faults = refl;
}

pub ends_so : (site : Setting) (start now : Outside) (end : ConnectionEnd) → EndsItself site start now end → Ends site start now end
ends_so site start now ends.Ended so = so
ends_so site start now ends.ReadFault so = so
ends_so site start now ends.WriteFault so = so
ends_so site start now ends.Superseded so = so
ends_so site start now ends.Silent so = elim so [ ]
ends_so site start now ends.Memory so = so
ends_so site start now ends.Gone so = elim so [ ]
