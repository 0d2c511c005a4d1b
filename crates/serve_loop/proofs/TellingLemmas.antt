-- What a line of a trail says is true.
use Rattle.std.proofs.Common.{◌≡◌, ℕ, ◌+◌, true, List, [], ◌∷◌, ◌++◌, length, Option, Some, None, ◌⊎◌, refl, sym, ◌∙◌, ap, subst, inl, inr, slice_get}
use Rattle.std.specs.Arc.{arc_value}
use Rattle.std.specs.BTreeMap.{IsUnchanged}
use Rattle.bosh_types.specs.declared.condition.Condition.{Condition}
use Rattle.bosh_types.specs.declared.condition.Condition.TheVariants.{ItemNotFound, UndefinedCondition}
use Rattle.bosh_types.specs.declared.hosts.HostName.{HostName}
use Rattle.parked_gate.specs.Histories.{Appends}
use Rattle.parked_gate.specs.Passes.{Calls, Known, gate_of, known}
use Rattle.session_attrs.specs.declared.request.Request.{Request}
use Rattle.session_table.specs.declared.calls.NewSession.{NewSession}
use Rattle.session_table.specs.declared.calls.NewSession.TheVariants as news
use Rattle.session_table.specs.declared.calls.Opened.{Opened}
use Rattle.session_table.specs.declared.entry.Entry as table
use Rattle.session_table.specs.declared.handle.SessionHandle.{SessionHandle}
use Rattle.session_table.specs.declared.opening.Limits.{Limits}
use Rattle.session_table.specs.declared.opening.Opening.{Opening}
use Rattle.session_table.specs.declared.purse.Purse.{Purse}
use Rattle.session_table.specs.History.{live_at, opening_in, openings_of}
use Rattle.session_table.specs.Purses.{OpensInto, OthersStay, Sessions, held}
use Rattle.session_table.specs.Replies.{IsFull, IsSpent, Opens, Starts}
use Rattle.serve_loop.specs.declared.asked.Asked.TheVariants.{Nothing, Creation}
use Rattle.serve_loop.specs.declared.trail.Evidence.{Evidence}
use Rattle.serve_loop.specs.declared.trail.Evidence.TheVariants as evidence
use Rattle.serve_loop.specs.declared.trail.Traced.{Traced}
use Rattle.serve_loop.specs.declared.trail.TrailLine.{TrailLine}
use Rattle.serve_loop.specs.declared.trail.TrailLine.TheVariants as lines
use Rattle.serve_loop.specs.Answering.{Adds, ShowsDirectory, ShowsSession, Tells}
use Rattle.serve_loop.specs.Asked.{asked_of}
use Rattle.serve_loop.specs.Effects.{AsksDirectory, IsOpeningOf, OpensOne}
use Rattle.serve_loop.specs.Trail.{IsOpened, IsOpeningAt, IsOpeningFor, IsTrueOf, Names, Setting, refusal_text}

-- From a line to what is told.

some_same : {X : Type 0} (x y : X) → Some x ≡ Some y → x ≡ y
some_same x y is = cc

-- what a line with any evidence of which this holds says is true
pub tells_line : (site : Setting) (body text : List ℕ) (before after : Purse) (old new : List Traced) (line : TrailLine) (Shows : Evidence → Type 0)
    → Adds old new line Shows → ((by : Evidence) → Shows by → IsTrueOf site body text before after line by)
    → Tells site body text old new before after
tells_line site body text before after old new line Shows adds true_by =
    record { traced = record { line = line; evidence = adds.by }; grew = adds.grew; true_of = true_by adds.by adds.shows }

-- what a call says may be told in other words
pub calls_as : {E : Type 0} (caller_of : E → ℕ) (P Q : List E → Option E → Type 0) (old new : Known E) → ((log : List E) (made : Option E) → P log made → Q log made)
    → Calls caller_of P old new → Calls caller_of Q old new
calls_as caller_of P Q old new by call = record {
  before = call.before;
  made = call.made;
  begins = call.begins;
  says = by call.before call.made call.says;
  seen = call.seen;
  mine = call.mine;
  earlier = call.earlier;
  learnt = call.learnt;
}

-- what was seen after a call that entered nothing, and after one that did
pub seen_none : {E : Type 0} (caller_of : E → ℕ) (number : ℕ) (before after : List E) (made : Option E) → made ≡ None → Appends caller_of number before made after → after ≡ before
seen_none caller_of number before after made is appends = subst (λ (m : Option _). Appends caller_of number before m after) is appends

pub seen_one : {E : Type 0} (caller_of : E → ℕ) (number : ℕ) (before after : List E) (made : Option E) (e : E) → made ≡ Some e → Appends caller_of number before made after
    → (after ≡ before ++ e ∷ []) × (caller_of e ≡ number)
seen_one caller_of number before after made e is appends = subst (λ (m : Option _). Appends caller_of number before m after) is appends

-- Refusals.

pub tells_nothing : (site : Setting) (body : List ℕ) (before after : Purse) (old new : List Traced) (condition : Condition) → asked_of site.hosts body ≡ Nothing condition
    → after ≡ before → Adds old new (lines.NoSession condition) (λ by. by ≡ evidence.Request) → Tells site body (refusal_text condition) old new before after
tells_nothing site body before after old new condition asks same adds =
    tells_line site body (refusal_text condition) before after old new (lines.NoSession condition) (λ by. by ≡ evidence.Request) adds
    (λ by is. (refl, inl (asks, same)))

-- a call of the directory that entered nothing
pub asks_directory : (P : List table.Entry → Type 0) (before after : Purse) (told : Known table.Entry) → told ≡ known after.directory
    → Calls (λ e. e.caller) (λ log made. (made ≡ None) × P log) (known before.directory) (known after.directory)
    → IsUnchanged before.sessions after.sessions → P told.seen × AsksDirectory before after told
asks_directory P before after told now call held =
    let seen = seen_none (λ e. e.caller) (known before.directory).number call.before (known after.directory).seen call.made call.says.0 call.seen in (
      subst P (sym seen ∙ ap (λ (k : Known table.Entry). k.seen) (sym now)) call.says.1,
      record {
        now = now;
        asked = calls_as (λ e. e.caller) _ _ (known before.directory) (known after.directory) (λ log made says. says.0) call;
        held = held;
      },
    )

-- the directory, asked now, has no room for one more session
full_by : (site : Setting) (body : List ℕ) (request : Request) (place : ℕ) (before after : Purse) → asked_of site.hosts body ≡ Creation request place
    → Calls (λ e. e.caller) (λ log made. (made ≡ None) × (IsFull site.limits log ⊎ IsSpent site.limits log)) (known before.directory) (known after.directory)
    → IsUnchanged before.sessions after.sessions
    → (by : Evidence) → ShowsDirectory (known after.directory) by → IsTrueOf site body (refusal_text UndefinedCondition) before after (lines.NoSession UndefinedCondition) by
full_by site body request place before after asks call held evidence.Request shows = absurd shows
full_by site body request place before after asks call held (evidence.Session session) shows = absurd shows
full_by site body request place before after asks call held (evidence.Directory pass) shows =
    (refl, inr (refl, record { request = request; place = place; asks = asks; room = asks_directory (λ log. IsFull site.limits log ⊎ IsSpent site.limits log) before after (known pass.value) shows call held }))

pub tells_full : (site : Setting) (body : List ℕ) (request : Request) (place : ℕ) (before after : Purse) (old new : List Traced) → asked_of site.hosts body ≡ Creation request place
    → Calls (λ e. e.caller) (λ log made. (made ≡ None) × (IsFull site.limits log ⊎ IsSpent site.limits log)) (known before.directory) (known after.directory)
    → IsUnchanged before.sessions after.sessions → Adds old new (lines.NoSession UndefinedCondition) (ShowsDirectory (known after.directory))
    → Tells site body (refusal_text UndefinedCondition) old new before after
tells_full site body request place before after old new asks call held adds =
    tells_line site body (refusal_text UndefinedCondition) before after old new (lines.NoSession UndefinedCondition) (ShowsDirectory (known after.directory)) adds
    (full_by site body request place before after asks call held)

pub table_full : (opening : Opening) (limits : Limits) (sessions : Sessions) (before after : Known table.Entry) → opening.limits ≡ limits
    → Calls (λ e. e.caller) (λ log made. OpensInto log opening news.TableFull sessions made) before after
    → Calls (λ e. e.caller) (λ log made. (made ≡ None) × (IsFull limits log ⊎ IsSpent limits log)) before after
table_full opening limits sessions before after are call =
    calls_as (λ e. e.caller) _ _ before after (λ log made says. (says.0, inl (subst (λ l. IsFull l log) are says.1))) call

pub openings_spent : (opening : Opening) (limits : Limits) (sessions : Sessions) (before after : Known table.Entry) → opening.limits ≡ limits
    → Calls (λ e. e.caller) (λ log made. OpensInto log opening news.OpeningsSpent sessions made) before after
    → Calls (λ e. e.caller) (λ log made. (made ≡ None) × (IsFull limits log ⊎ IsSpent limits log)) before after
openings_spent opening limits sessions before after are call =
    calls_as (λ e. e.caller) _ _ before after (λ log made says. (says.0, inr (subst (λ l. IsSpent l log) are says.1))) call

-- Sessions that there are none of.

gone_by : (site : Setting) (body sid : List ℕ) (request : Request) (before after : Purse) → Names body sid request
    → Calls (λ e. e.caller) (λ log made. (made ≡ None) × (live_at log sid ≡ None)) (known before.directory) (known after.directory)
    → IsUnchanged before.sessions after.sessions
    → (by : Evidence) → ShowsDirectory (known after.directory) by → IsTrueOf site body (refusal_text ItemNotFound) before after (lines.Unknown sid) by
gone_by site body sid request before after names call held evidence.Request shows = absurd shows
gone_by site body sid request before after names call held (evidence.Session session) shows = absurd shows
gone_by site body sid request before after names call held (evidence.Directory pass) shows =
    record { request = request; names = names; gone = asks_directory (λ log. live_at log sid ≡ None) before after (known pass.value) shows call held; text_is = refl }

pub unknown_told : (site : Setting) (body sid slice : List ℕ) (request : Request) (before after : Purse) (old new : List Traced) (evidence : Evidence) → Names body sid request
    → slice ≡ sid → Calls (λ e. e.caller) (λ log made. (made ≡ None) × (live_at log slice ≡ None)) (known before.directory) (known after.directory)
    → IsUnchanged before.sessions after.sessions → ShowsDirectory (known after.directory) evidence
    → Adds old new (lines.Unknown sid) (λ by. by ≡ evidence) → Tells site body (refusal_text ItemNotFound) old new before after
unknown_told site body sid slice request before after old new evidence names slice_is call held shows adds =
    tells_line site body (refusal_text ItemNotFound) before after old new (lines.Unknown sid) (ShowsDirectory (known after.directory))
    (record { by = adds.by; grew = adds.grew; shows = subst (ShowsDirectory (known after.directory)) (sym adds.shows) shows })
    (gone_by site body sid request before after names
    (subst (λ (s : List ℕ). Calls (λ e. e.caller) (λ log made. (made ≡ None) × (live_at log s ≡ None)) (known before.directory) (known after.directory)) slice_is call) held)

-- Openings.

opened_by : (site : Setting) (body sid text : List ℕ) (before after : Purse) (y : SessionHandle) → IsOpened site sid body text before after y
    → (by : Evidence) → ShowsSession y by → IsTrueOf site body text before after (lines.Opened sid) by
opened_by site body sid text before after y is evidence.Request shows = absurd shows
opened_by site body sid text before after y is (evidence.Directory pass) shows = absurd shows
opened_by site body sid text before after y is (evidence.Session session) shows = subst (IsOpened site sid body text before after) (sym shows) is

-- the entry of its opening, and nothing else
opened_one : (before after : Purse) (opening : Opening) (number : ℕ) (text : List ℕ) (y : SessionHandle) → held after.sessions number ≡ Some y
    → OthersStay number before.sessions after.sessions
    → Calls (λ e. e.caller) (λ log made. (handle : SessionHandle) × (held after.sessions number ≡ Some handle)
    × Opens log opening (record { session = handle; answer = text }) made × (handle.number ≡ number)) (known before.directory) (known after.directory)
    → OpensOne before after y
opened_one before after opening number text y is others call = record {
  number = number;
  is = is;
  numbered = subst (λ (h : SessionHandle). h.number ≡ number) (same call.says.0 call.says.1) call.says.3;
  mine = subst (λ (h : SessionHandle). (known h.pass).mine ≡ []) (same call.says.0 call.says.1) call.says.2.mine;
  others = others;
  entered = calls_as (λ e. e.caller) _ _ (known before.directory) (known after.directory)
      (λ log made says. (
        says.2.entry,
        says.2.entered,
        subst (λ (h : SessionHandle). opening_in says.2.entry ≡ Some (h.sid, gate_of (arc_value h.gate))) (same says.0 says.1) says.2.tells,
        subst (λ (h : SessionHandle). h.number ≡ length (openings_of log) + 1) (same says.0 says.1) says.2.starts.number_is,
      )) call;
}
  where
    same : (h : SessionHandle) → held after.sessions number ≡ Some h → h ≡ y
    same h there = some_same h y (sym there ∙ is)

pub tells_opened : (site : Setting) (body text : List ℕ) (request : Request) (place : ℕ) (host : HostName) (opening : Opening) (number : ℕ) (before after : Purse)
    (old new : List Traced) (y : SessionHandle) → asked_of site.hosts body ≡ Creation request place → slice_get site.hosts place ≡ Some host
    → IsOpeningAt site host request body opening → held after.sessions number ≡ Some y → OthersStay number before.sessions after.sessions
    → Calls (λ e. e.caller) (λ log made. OpensInto log opening (news.Opened number text) after.sessions made) (known before.directory) (known after.directory)
    → Adds old new (lines.Opened y.sid) (ShowsSession y) → Tells site body text old new before after
tells_opened site body text request place host opening number before after old new y asks there opens is others call adds =
    let same = some_same call.says.0 y (sym call.says.1 ∙ is) in
    let starts = call.says.2.starts in
    let own : Starts call.says.0.number opening call.says.0 text = subst (λ (n : ℕ). Starts n opening call.says.0 text) (sym starts.number_is) starts in
    tells_line site body text before after old new (lines.Opened y.sid) (ShowsSession y) adds
    (opened_by site body y.sid text before after y record {
      opening = opening;
      created = record { request = request; place = place; host = host; asks = asks; there = there; opens = opens };
      of = refl;
      starts = subst (λ (h : SessionHandle). Starts h.number opening h text) same own;
      alone = opened_one before after opening number text y is others call;
    })
