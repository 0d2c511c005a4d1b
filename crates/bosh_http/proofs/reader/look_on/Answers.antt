use Rattle.std.proofs.Common.{sym, ◌∙◌, true≢false}
use Rattle.bosh_http.proofs.ReaderLemmas.{stands_anew}
use Rattle.bosh_http.proofs.reader.look_on.Goals as goal

pub returns-then-not-is_all-clause-stands : goal.returns-then-not-is_all-clause-stands
returns-then-not-is_all-clause-stands g c =
    let bytes = c.args.bytes.now in
    let laws = c.laws.ensures in
    (c.is_due-is_due.ensures.scans, laws.lacks_before c.is_due-is_due.new.self.seen bytes (laws.lacks_on c.args.scan.seen bytes c.requires.none (c.is_due-is_due.ensures.none c.if-not-is_due.true)))

pub returns-then-not-is_all-clause-tells : goal.returns-then-not-is_all-clause-tells
returns-then-not-is_all-clause-tells g c = record {
  short = c.is_due-is_due.ensures.short c.if-not-is_due.true;
  lacks = c.laws.ensures.lacks_on c.args.scan.seen c.args.bytes.now c.requires.none (c.is_due-is_due.ensures.none c.if-not-is_due.true);
  begins = λ is. absurd (true≢false (sym is ∙ c.if-not-is_all.true));
}

pub returns-in-Wrong-clause-stands : goal.returns-in-Wrong-clause-stands
returns-in-Wrong-clause-stands g c = stands_anew g.H.Heads.lacks c.scan.result c.args.bytes.now (c.scan.ensures.scans c.args.bytes.now) c.scan.ensures.none c.laws.ensures.empty_lacks
