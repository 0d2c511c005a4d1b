use Rattle.std.proofs.Common.{inl, sym, ◌∙◌}
use Rattle.stream_backend.proofs.lines.place_for.Goals as goal

pub returns-in-Some-clause-some : goal.returns-in-Some-clause-some
returns-in-Some-clause-some g c = record {
  there = c.in-Some.ensures.some.0;
  free = λ d. inl (c.in-Some.ensures.some.1 d);
  apart = λ k d n a e. a (c.requires k c.in-Some.at d n c.in-Some.ensures.some.0 (e ∙ sym (c.in-Some.ensures.some.1 d)));
}
