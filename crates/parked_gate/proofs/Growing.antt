-- What a pass knows grows from one turn to the next.
use Rattle.std.proofs.Common.{◌≡◌, ℕ, List, [], ◌∷◌, ◌++◌, length, Option, refl, sym, ap, ◌∙◌, subst, append_assoc}
use Rattle.std.specs.Option.{option_to_list}
use Rattle.std.proofs.lemmas.List.{append-nil}
use Rattle.parked_gate.specs.Histories.{StartsWith, Appends}
use Rattle.parked_gate.specs.Passes.{Known, Calls, Looks, Grows}
use Rattle.parked_gate.proofs.Lists.{begins_itself}

learnt_through : (a b c : List ℕ) (e f : List ℕ) (n : ℕ) → b ≡ a ++ e → c ≡ (b ++ f) ++ n ∷ [] → c ≡ (a ++ (e ++ f)) ++ n ∷ []
learnt_through a b c e f n p q = q ∙ ap (λ l. l ++ n ∷ []) (ap (λ l. l ++ f) p ∙ append_assoc a e f)

module _ {E : Type 0} where
  begins_through : (a b c : List E) → StartsWith c b → StartsWith b a → StartsWith c a
  begins_through a b c p q = (q.0 ++ p.0, p.1 ∙ (ap (λ l. l ++ p.0) q.1 ∙ append_assoc a q.0 p.0))

  pub grows_not : (a : Known E) → Grows a a
  grows_not a = record { number = refl; begins = begins_itself a.seen; mine = refl; earlier = []; learnt = sym (append-nil a.learnt) }

  -- a look is no more than that
  pub grows_looked : {Says : List E → Type 0} (a b c : Known E) → Grows a b → Looks Says b c → c.number ≡ b.number → Grows a c
  grows_looked a b c p q number = record {
    number = number ∙ p.number;
    begins = begins_through a.seen b.seen c.seen q.begins p.begins;
    mine = q.mine ∙ p.mine;
    earlier = (p.earlier ++ q.earlier) ++ length c.seen ∷ [];
    learnt = learnt_through a.learnt b.learnt c.learnt p.earlier q.earlier (length c.seen) p.learnt q.learnt
        ∙ append_assoc a.learnt (p.earlier ++ q.earlier) (length c.seen ∷ []);
  }

  pub looks_later : {Says : List E → Type 0} (a b c : Known E) → Grows a b → Looks Says b c → Looks Says a c
  looks_later a b c p q = record {
    begins = begins_through a.seen b.seen c.seen q.begins p.begins;
    says = q.says;
    mine = q.mine ∙ p.mine;
    earlier = p.earlier ++ q.earlier;
    learnt = learnt_through a.learnt b.learnt c.learnt p.earlier q.earlier (length c.seen) p.learnt q.learnt;
  }

  pub calls_later : {caller_of : E → ℕ} {Says : List E → Option E → Type 0} (a b c : Known E) → Grows a b → Calls caller_of Says b c → Calls caller_of Says a c
  calls_later {caller_of} a b c p q = record {
    before = q.before;
    made = q.made;
    begins = begins_through a.seen b.seen q.before q.begins p.begins;
    says = q.says;
    seen = subst (λ (n : ℕ). Appends caller_of n q.before q.made c.seen) p.number q.seen;
    mine = q.mine ∙ ap (λ l. l ++ option_to_list q.made) p.mine;
    earlier = p.earlier ++ q.earlier;
    learnt = learnt_through a.learnt b.learnt c.learnt p.earlier q.earlier (length q.before) p.learnt q.learnt;
  }
