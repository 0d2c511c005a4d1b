-- The lines that a connection added, however it ended.
use Rattle.std.proofs.Common.{◌≡◌, ◌⊎◌, ℕ, Bool, true, List, [], ◌∷◌, ◌++◌, Option, refl, sym, ◌∙◌, ap, subst, inl, inr, append_assoc}
use Rattle.std.specs.Io.KnownBytes.{Keeps}
use Rattle.bosh_http.specs.declared.reading.HttpIn.TheVariants as http
use Rattle.bosh_http.specs.Reading.{Reads}
use Rattle.bosh_http.specs.declared.refusal.HttpRefusal.{HttpRefusal}
use Rattle.parked_gate.specs.Passes.{known}
use Rattle.session_table.specs.declared.purse.Purse.{Purse}
use Rattle.serve_loop.specs.declared.connection.ConnectionEnd.{ConnectionEnd}
use Rattle.serve_loop.specs.declared.connection.ConnectionEnd.TheVariants as ends
use Rattle.serve_loop.specs.declared.owed.Owed.{Owed}
use Rattle.serve_loop.specs.declared.owed.Owed.TheVariants as owed
use Rattle.serve_loop.specs.declared.trail.Evidence.TheVariants as evidence
use Rattle.serve_loop.specs.declared.trail.Traced.{Traced}
use Rattle.serve_loop.specs.declared.trail.TrailLine.TheVariants as lines
use Rattle.serve_loop.specs.Answering.{IsLost}
use Rattle.serve_loop.specs.Connections.{Answered, Ends, Exchange, Gave, HasAnswer, HasRead, HasRefused, LacksMemory, Outside, Owes, Serves, WaitsOn, lines_of, outside}
use Rattle.serve_loop.specs.Effects.{DropsRemoved}
use Rattle.serve_loop.specs.Trail.{Setting}
use Rattle.trail_laws.proofs.ChainLemmas.{Chain, Grew, chain_from, chain_to, grew_none}
use Rattle.trail_laws.proofs.ListLemmas.{cancel}
use Rattle.trail_laws.proofs.StepLemmas.{grew_by_call, grew_of}
use Rattle.trail_laws.proofs.WalkLemmas.{IsStep, Walks, chain_of, walk_more, walk_of}

-- these lines were added, and nothing was called since
pub record Walked (site : Setting) (old new : List Traced) (first last : Purse) : Type 0 where
  pub added : List Traced
  pub grew : new ≡ old ++ added
  pub walk : Walks site first added last

-- these lines were added, and what was called since has no line
pub record Added (site : Setting) (old new : List Traced) (first last : Purse) : Type 0 where
  pub lines : List Traced
  pub grew : new ≡ old ++ lines
  pub mid : Purse
  pub walk : Walks site first lines mid
  pub since : Grew (known mid.directory) (known last.directory)

by_exchanges : (site : Setting) (start now : Outside) (es : List Exchange) → Answered site start es now → Walked site start.trail now.trail start.purse now.purse
by_exchanges site start now es a = record { added = lines_of es; grew = a.told; walk = walk_of site es start.purse now.purse a.true_of a.follows }

-- and one line more
one_more : (site : Setting) (old trail new : List Traced) (first mid last : Purse) (t : Traced) → Walked site old trail first mid → new ≡ trail ++ t ∷ [] → IsStep site mid t last
    → Walked site old new first last
one_more site old trail new first mid last t w is step = record {
  added = w.added ++ t ∷ [];
  grew = is ∙ (ap (λ l. l ++ t ∷ []) w.grew ∙ append_assoc old w.added (t ∷ []));
  walk = walk_more site first mid last w.added t w.walk step;
}

-- and no line
no_more : (site : Setting) (old new : List Traced) (first mid last : Purse) → Walked site old new first mid → Grew (known mid.directory) (known last.directory) → Added site old new first last
no_more site old new first mid last w since = record { lines = w.added; grew = w.grew; mid = mid; walk = w.walk; since = since }

all_told : (site : Setting) (old new : List Traced) (first last : Purse) → Walked site old new first last → Added site old new first last
all_told site old new first last w = no_more site old new first last last w (grew_none (known last.directory))

by_answer : (site : Setting) (start now : Outside) (text : List ℕ) (closing : Bool) → HasAnswer site start now text closing → Walked site start.trail now.trail start.purse now.purse
by_answer site start now text closing h =
    one_more site start.trail h.trail now.trail start.purse h.purse now.purse h.traced
    (by_exchanges site start (record now { stream = h.stream; trail = h.trail; purse = h.purse }) h.exchanges h.answered) h.tells
    (inl (record { body = h.body; text = text; true_of = h.true_of }))

by_refusal : (site : Setting) (start now : Outside) (refusal : HttpRefusal) → HasRefused site start now refusal → Walked site start.trail now.trail start.purse now.purse
by_refusal site start now refusal h =
    one_more site start.trail h.trail now.trail start.purse now.purse now.purse (record { line = lines.Http refusal; evidence = evidence.Request })
    (by_exchanges site start (record now { stream = h.stream; trail = h.trail }) h.exchanges h.answered) h.tells (inr (record { refusal = refusal; is = refl; same = refl }))

grew_lost : (site : Setting) (body : List ℕ) (old new : Purse) → IsLost site body old new → Grew (known old.directory) (known new.directory)
grew_lost site body old new (inl nothing) = grew_of (known old.directory) (known new.directory) nothing.2.directory
grew_lost site body old new (inr opens) = grew_by_call (known old.directory) (known new.directory) opens.2.entered

by_want : (site : Setting) (start now : Outside) → LacksMemory site start now → Added site start.trail now.trail start.purse now.purse
by_want site start now h =
    no_more site start.trail now.trail start.purse h.purse now.purse (by_exchanges site start (record now { stream = h.stream; purse = h.purse }) h.exchanges h.answered) (grew h.came)
  where
    grew : (Keeps h.stream now.stream × (now.purse ≡ h.purse))
        ⊎ ((body : List ℕ) × (closing : Bool) × Reads h.stream now.stream (http.Request body closing) × IsLost site body h.purse now.purse) → Grew (known h.purse.directory) (known now.purse.directory)
    grew (inl came) = subst (λ (p : Purse). Grew (known h.purse.directory) (known p.directory)) (sym came.1) (grew_none (known h.purse.directory))
    grew (inr came) = grew_lost site came.0 h.purse now.purse came.3

by_owed : (site : Setting) (start now : Outside) (what : Owed) → Owes site start now what → Added site start.trail now.trail start.purse now.purse
by_owed site start now (owed.Answer text closing) h = all_told site start.trail now.trail start.purse now.purse (by_answer site start now text closing h)
by_owed site start now (owed.Refusal refusal) h = all_told site start.trail now.trail start.purse now.purse (by_refusal site start now refusal h)
by_owed site start now owed.NoMemory h = by_want site start now h

by_gave : (site : Setting) (start now : Outside) (what : Owed) → Gave site start now what → Added site start.trail now.trail start.purse now.purse
by_gave site start now what g = by_owed site start (record now { given = g.given }) what g.owes

by_read : (site : Setting) (start now : Outside) (purse : Purse) (body : List ℕ) (closing : Bool) → HasRead site start (record now { purse = purse }) body closing
    → Grew (known purse.directory) (known now.purse.directory) → Added site start.trail now.trail start.purse now.purse
by_read site start now purse body closing h since =
    no_more site start.trail now.trail start.purse purse now.purse (by_exchanges site start (record now { purse = purse; stream = h.stream }) h.exchanges h.answered) since

by_wait : (site : Setting) (start now : Outside) → WaitsOn site start now → Added site start.trail now.trail start.purse now.purse
by_wait site start now (w, closing, waits) =
    by_read site start now waits.purse waits.body closing waits.read (grew_of (known waits.purse.directory) (known now.purse.directory) waits.waits.alone.directory)

by_end : (site : Setting) (start now : Outside) (end : ConnectionEnd) → Ends site start now end → Added site start.trail now.trail start.purse now.purse
by_end site start now ends.Ended (inl h) = all_told site start.trail now.trail start.purse now.purse (by_exchanges site start (record now { stream = h.stream }) h.exchanges h.answered)
by_end site start now ends.Ended (inr (inl (text, gave))) = by_gave site start now (owed.Answer text true) gave
by_end site start now ends.Ended (inr (inr (refusal, gave))) = by_gave site start now (owed.Refusal refusal) gave
by_end site start now ends.ReadFault h =
    all_told site start.trail now.trail start.purse now.purse (by_exchanges site start (record now { stream = h.stream; faults = start.faults }) h.exchanges h.answered)
by_end site start now ends.WriteFault h = by_owed site start (record now { given = h.given; faults = start.faults }) h.what h.owes
by_end site start now ends.Superseded h =
    by_read site start now h.purse h.body h.closing h.read (grew_of (known h.purse.directory) (known now.purse.directory) h.taken.alone.directory)
by_end site start now ends.Silent h = by_wait site start now h
by_end site start now ends.Memory h = by_gave site start now owed.NoMemory h
by_end site start now ends.Gone h = by_wait site start now h

-- what a connection did, behind its first look at the directory
pub record Did (site : Setting) (start : Outside) (added : List Traced) (last : Purse) : Type 0 where
  pub first : Purse
  pub drops : DropsRemoved start.purse first
  pub mid : Purse
  pub walk : Walks site first added mid
  pub since : Grew (known mid.directory) (known last.directory)

pub served_adds : (site : Setting) (start : Outside) (left given : Option (List ℕ)) (trail : List Traced) (purse : Purse) (faults : ℕ) (end : ConnectionEnd)
    → Serves site start left given trail purse faults end → (added : List Traced) × (trail ≡ start.trail ++ added)
served_adds site start left given trail purse faults end (kept, first, drops, how) =
    let a : Added site start.trail trail first purse = by_end site (record start { purse = first }) (outside kept left given trail purse faults) end how in
    (a.lines, a.grew)

pub served_did : (site : Setting) (start : Outside) (left given : Option (List ℕ)) (added : List Traced) (purse : Purse) (faults : ℕ) (end : ConnectionEnd)
    → Serves site start left given (start.trail ++ added) purse faults end → Did site start added purse
served_did site start left given added purse faults end (kept, first, drops, how) =
    let a : Added site start.trail (start.trail ++ added) first purse =
    by_end site (record start { purse = first }) (outside kept left given (start.trail ++ added) purse faults) end how in
    record {
      first = first;
      drops = drops;
      mid = a.mid;
      walk = subst (λ ts. Walks site first ts a.mid) (sym (cancel start.trail added a.lines a.grew)) a.walk;
      since = a.since;
    }

pub served_chain : (site : Setting) (start : Outside) (left given : Option (List ℕ)) (added : List Traced) (purse : Purse) (faults : ℕ) (end : ConnectionEnd)
    → Serves site start left given (start.trail ++ added) purse faults end → Chain site.limits (known start.purse.directory) added (known purse.directory)
served_chain site start left given added purse faults end serves =
    let d : Did site start added purse = served_did site start left given added purse faults end serves in
    chain_from site.limits (known start.purse.directory) (known d.first.directory) (known purse.directory) added
    (grew_of (known start.purse.directory) (known d.first.directory) d.drops.directory)
    (chain_to site.limits (known d.first.directory) (known d.mid.directory) (known purse.directory) added (chain_of site d.first d.mid added d.walk) d.since)
