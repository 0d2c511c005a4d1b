use Rattle.std.proofs.Common.{◌≡◌, ◌∙◌, [], subst}
use Rattle.xmpp_stream.specs.declared.stream_cutter.StreamItem.{StreamItem}
use Rattle.xmpp_stream.specs.declared.stream_cutter.StreamItem.TheVariants as items
use Rattle.xmpp_stream.specs.Cut.{GoesWrong, HasEnded, Tells}
use Rattle.xmpp_stream.specs.Wire.{IsRead}
use Rattle.xmpp_stream.proofs.ReadLemmas.{read_next, read_same, read_was, taken_steps}
use Rattle.xmpp_stream.proofs.ScanLemmas.{ok_is, on_ok_is}
use Rattle.xmpp_stream.proofs.incoming.Incoming.step.Goals as goal

pub returns-in-More-clause-ok : goal.returns-in-More-clause-ok
returns-in-More-clause-ok g c = λ start elements h.
    let left = g.L.Link.left c.args.link.now in
    let f : IsRead start left c.feed.new.self elements = on_ok_is c.feed.result c.in_ok-feed.field-0 c.in_ok-feed.was (c.feed.ensures.ok start left elements h) in
    let w : c.feed.new.self.waiting ≡ [] = c.in_ok-feed.ensures.waiting in
    let t : Tells c.in_ok-next.field-0 c.next.new.self.cutter f.fed elements =
    ok_is (λ (i : StreamItem). Tells i c.next.new.self.cutter f.fed elements) c.next.result c.in_ok-next.field-0 c.in_ok-next.was (c.next.ensures.ok f.fed elements f.cut) in
    let m : Tells items.More c.next.new.self.cutter f.fed elements = subst (λ (i : StreamItem). Tells i c.next.new.self.cutter f.fed elements) c.in-More.is t in
    taken_steps (read_same f c.next.new.self c.next.ensures.waiting m.0) (c.next.ensures.waiting ∙ w) (g.L.Link.left c.take.new.link) c.take.new.self c.take.ensures.cutter c.take.result c.take.ensures.none c.take.ensures.some

pub returns-in-Item-clause-ok : goal.returns-in-Item-clause-ok
returns-in-Item-clause-ok g c = λ start elements h.
    let left = g.L.Link.left c.args.link.now in
    let f : IsRead start left c.feed.new.self elements = on_ok_is c.feed.result c.in_ok-feed.field-0 c.in_ok-feed.was (c.feed.ensures.ok start left elements h) in
    let w : c.feed.new.self.waiting ≡ [] = c.in_ok-feed.ensures.waiting in
    let t : Tells c.in_ok-next.field-0 c.next.new.self.cutter f.fed elements =
    ok_is (λ (i : StreamItem). Tells i c.next.new.self.cutter f.fed elements) c.next.result c.in_ok-next.field-0 c.in_ok-next.was (c.next.ensures.ok f.fed elements f.cut) in
    let m : Tells (items.Item c.in-Item.text) c.next.new.self.cutter f.fed elements = subst (λ (i : StreamItem). Tells i c.next.new.self.cutter f.fed elements) c.in-Item.is t in
    read_next f w c.in-Item.text c.next.new.self (c.next.ensures.waiting ∙ w) m

pub returns-in-Closed-clause-ok : goal.returns-in-Closed-clause-ok
returns-in-Closed-clause-ok g c = λ start elements h.
    let left = g.L.Link.left c.args.link.now in
    let f : IsRead start left c.feed.new.self elements = on_ok_is c.feed.result c.in_ok-feed.field-0 c.in_ok-feed.was (c.feed.ensures.ok start left elements h) in
    let w : c.feed.new.self.waiting ≡ [] = c.in_ok-feed.ensures.waiting in
    let t : Tells c.in_ok-next.field-0 c.next.new.self.cutter f.fed elements =
    ok_is (λ (i : StreamItem). Tells i c.next.new.self.cutter f.fed elements) c.next.result c.in_ok-next.field-0 c.in_ok-next.was (c.next.ensures.ok f.fed elements f.cut) in
    let m : Tells (items.Closed c.in-Closed.error) c.next.new.self.cutter f.fed elements = subst (λ (i : StreamItem). Tells i c.next.new.self.cutter f.fed elements) c.in-Closed.is t in
    (read_same f c.next.new.self c.next.ensures.waiting m.0, read_was f w (λ taken. HasEnded taken elements) m.1, m.2)

pub returns-in-Broken-clause-ok : goal.returns-in-Broken-clause-ok
returns-in-Broken-clause-ok g c = λ start elements h.
    let left = g.L.Link.left c.args.link.now in
    let f : IsRead start left c.feed.new.self elements = on_ok_is c.feed.result c.in_ok-feed.field-0 c.in_ok-feed.was (c.feed.ensures.ok start left elements h) in
    let w : c.feed.new.self.waiting ≡ [] = c.in_ok-feed.ensures.waiting in
    let t : Tells c.in_ok-next.field-0 c.next.new.self.cutter f.fed elements =
    ok_is (λ (i : StreamItem). Tells i c.next.new.self.cutter f.fed elements) c.next.result c.in_ok-next.field-0 c.in_ok-next.was (c.next.ensures.ok f.fed elements f.cut) in
    let m : Tells (items.Broken c.in-Broken.place) c.next.new.self.cutter f.fed elements = subst (λ (i : StreamItem). Tells i c.next.new.self.cutter f.fed elements) c.in-Broken.is t in
    (read_same f c.next.new.self c.next.ensures.waiting m.0, read_was f w (λ taken. GoesWrong c.in-Broken.place taken elements) m.1)
