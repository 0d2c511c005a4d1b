use Rattle.std.proofs.Common.{◌++◌, ◌∙◌, ap, codes, drop, subst}
use Rattle.bosh_http.specs.Texts.{response_with}
use Rattle.bosh_http.proofs.TextLemmas.{response_parts}
use Rattle.polled_http.specs.Windows.{Shows}
use Rattle.polled_http.proofs.giving.show_parts.Goals as goal

pub returns-clause-shows : goal.returns-clause-shows
unfolding response_with
returns-clause-shows c =
    let version = codes "HTTP/1.1 " in
    let space = codes " " in
    let crlf = codes "\r\n" in
    let kind = codes "Content-Type: text/xml; charset=utf-8\r\n" in
    let name = codes "Content-Length: " in
    let code = c.args.head.now.code.now in
    let phrase = c.args.head.now.phrase.now in
    let allow = c.args.head.now.allow.now in
    let connection = c.args.head.now.connection.now in
    let body = c.args.body.now in
    subst (λ text. Shows (drop c.args.place text) c.show.new.room.items c.show.result)
    (response_parts version code space phrase crlf kind name c.as_bytes.result.now allow connection body
    ∙ ap (λ digits. version ++ code ++ space ++ phrase ++ crlf ++ (kind ++ name ++ digits ++ crlf) ++ (allow ++ connection) ++ crlf ++ body) (c.as_bytes.ensures.value ∙ c.format.ensures.text))
    c.show.ensures.shows
