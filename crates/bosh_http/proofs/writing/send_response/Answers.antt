use Rattle.std.proofs.Common.{◌++◌, ◌∙◌, ap, codes, subst}
use Rattle.bosh_ports.specs.Sink.{GivesAll}
use Rattle.bosh_http.specs.Texts.{response_with}
use Rattle.bosh_http.proofs.TextLemmas.{response_parts}
use Rattle.bosh_http.proofs.writing.send_response.Goals as goal

pub returns-clause-given : goal.returns-clause-given
unfolding response_with
returns-clause-given g c =
    let version = codes "HTTP/1.1 " in
    let space = codes " " in
    let crlf = codes "\r\n" in
    let kind = codes "Content-Type: text/xml; charset=utf-8\r\n" in
    let name = codes "Content-Length: " in
    let code = c.args.head.now.code.now in
    let phrase = c.args.head.now.phrase.now in
    let allow = c.args.head.now.allow.now in
    let connection = c.args.head.now.connection.now in
    let body = c.args.body.now in
    subst (GivesAll c.send_gathered.result (g.L.Link.given c.args.link.now) (g.L.Link.given c.send_gathered.new.link))
    (response_parts version code space phrase crlf kind name c.as_bytes.result.now allow connection body
    ∙ ap (λ digits. version ++ code ++ space ++ phrase ++ crlf ++ (kind ++ name ++ digits ++ crlf) ++ (allow ++ connection) ++ crlf ++ body) (c.as_bytes.ensures.value ∙ c.format.ensures.text))
    c.send_gathered.ensures.given
