use Rattle.std.proofs.Common.{inl, inr, refl}
use Rattle.session_pump.proofs.serving.resume_where_open.Goals as goal

pub returns-then-not-is_open_on-clause-ends : goal.returns-then-not-is_open_on-clause-ends
returns-then-not-is_open_on-clause-ends g c = inr (c.is_open_on.ensures.closed c.if-not-is_open_on.true, refl)

pub returns-clause-ends : goal.returns-clause-ends
returns-clause-ends g c = inl (c.is_open_on.ensures.open c.if-not-is_open_on.false, c.resume.ensures.ends)
