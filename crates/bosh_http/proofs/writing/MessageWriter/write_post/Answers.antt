use Rattle.std.proofs.Common.{◌++◌, ◌∙◌, ap, codes, subst}
use Rattle.bosh_ports.specs.Sink.{GivesAll}
use Rattle.bosh_http.specs.Texts.{post_text}
use Rattle.bosh_http.proofs.TextLemmas.{post_parts}
use Rattle.bosh_http.proofs.writing.MessageWriter.write_post.Goals as goal

pub returns-clause-given : goal.returns-clause-given
unfolding post_text
returns-clause-given g c =
    let line = codes "POST /http-bind HTTP/1.1\r\n" in
    let host = codes "Host: 127.0.0.1\r\n" in
    let kind = codes "Content-Type: text/xml; charset=utf-8\r\n" in
    let name = codes "Content-Length: " in
    let crlf = codes "\r\n" in
    let body = c.args.body.now in
    subst (GivesAll c.send_gathered.result (g.L.Link.given c.args.link.now) (g.L.Link.given c.send_gathered.new.link))
    (post_parts line host kind name c.as_bytes.result.now crlf body
    ∙ ap (λ digits. line ++ host ++ (kind ++ name ++ digits ++ crlf) ++ crlf ++ body) (c.as_bytes.ensures.value ∙ c.format.ensures.text))
    c.send_gathered.ensures.given
