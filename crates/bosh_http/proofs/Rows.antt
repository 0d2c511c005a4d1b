-- The definitions compute: heads with what refuses them, and texts.
use Rattle.std.proofs.Common.{◌≡◌, refl}
use Rattle.std.specs.Prelude.{codes, List, [], ◌∷◌, ℕ, true, false, Some, None}
use Rattle.std.specs.Fmt.{digits}
use Rattle.httparse.specs.Grammar.{RequestHead, Field, crlf, trim_ows}
use Rattle.bosh_http.specs.Fields.{is_closing}
use Rattle.bosh_http.specs.Message.{refusal_of, head_refusal, content_length, fields_of}
use Rattle.bosh_http.specs.Texts.{response_text, response_with}
use Rattle.bosh_http.specs.declared.refusal.HttpRefusal.TheVariants.{BadHost, Get, Method, Path, Transfer, Encoding, NoLength, BadLength, TooLong}

-- a field line
abbrev field : List ℕ → List ℕ → Field
field name raw = record { name = name; raw = raw; end = crlf }

-- a head of HTTP/1.1 with these fields
abbrev head : List ℕ → List ℕ → List Field → RequestHead
head method target fields = record { blank = []; method = method; target = target; minor = 1; line_end = crlf; fields = fields; last = crlf }

abbrev host : Field
host = field (codes "Host") (codes " localhost")

abbrev length_68 : Field
length_68 = field (codes "content-LENGTH") (codes " 68 ")

-- a post to the path with these fields beside Host
abbrev post : List Field → RequestHead
post fields = head (codes "POST") (codes "/http-bind") (host ∷ fields)

served : head_refusal (post (length_68 ∷ [])) ≡ None
unfolding refusal_of trim_ows
served = refl

has_68_bytes : content_length (post (length_68 ∷ [])) ≡ 68
unfolding trim_ows
has_68_bytes = refl

-- the same length twice, once with a leading zero
same_twice : head_refusal (post (length_68 ∷ field (codes "Content-Length") (codes "068") ∷ [])) ≡ None
unfolding refusal_of trim_ows
same_twice = refl

differ : head_refusal (post (length_68 ∷ field (codes "Content-Length") (codes "67") ∷ [])) ≡ Some BadLength
unfolding refusal_of trim_ows
differ = refl

signed : head_refusal (post (field (codes "Content-Length") (codes "+5") ∷ [])) ≡ Some BadLength
unfolding refusal_of trim_ows
signed = refl

nineteen_digits : head_refusal (post (field (codes "Content-Length") (codes "0000000000000000005") ∷ [])) ≡ Some BadLength
unfolding refusal_of trim_ows
nineteen_digits = refl

no_length : head_refusal (post []) ≡ Some NoLength
unfolding refusal_of trim_ows
no_length = refl

too_long : head_refusal (post (field (codes "Content-Length") (codes "1048577") ∷ [])) ≡ Some TooLong
unfolding refusal_of trim_ows
too_long = refl

just_fits : head_refusal (post (field (codes "Content-Length") (codes "1048576") ∷ [])) ≡ None
unfolding refusal_of trim_ows
just_fits = refl

-- a length with another framing, and no length with it
transfer : head_refusal (post (length_68 ∷ field (codes "Transfer-Encoding") (codes "chunked") ∷ [])) ≡ Some Transfer
unfolding refusal_of trim_ows
transfer = refl

transfer_alone : head_refusal (post (field (codes "Transfer-Encoding") (codes "chunked") ∷ [])) ≡ Some Transfer
unfolding refusal_of trim_ows
transfer_alone = refl

encoded : head_refusal (post (length_68 ∷ field (codes "Content-Encoding") (codes "gzip") ∷ [])) ≡ Some Encoding
unfolding refusal_of trim_ows
encoded = refl

identity : head_refusal (post (length_68 ∷ field (codes "Content-Encoding") (codes "Identity") ∷ [])) ≡ None
unfolding refusal_of trim_ows
identity = refl

-- a person who looks, and another method, each on another path
get_first : head_refusal (head (codes "GET") (codes "/x") (host ∷ [])) ≡ Some Get
unfolding refusal_of trim_ows
get_first = refl

method_first : head_refusal (head (codes "HEAD") (codes "/x") (host ∷ [])) ≡ Some Method
unfolding refusal_of trim_ows
method_first = refl

path : head_refusal (head (codes "POST") (codes "/x") (host ∷ [])) ≡ Some Path
unfolding refusal_of trim_ows
path = refl

no_host : head_refusal (head (codes "POST") (codes "/x") []) ≡ Some BadHost
unfolding refusal_of trim_ows
no_host = refl

two_hosts : head_refusal (head (codes "POST") (codes "/x") (host ∷ host ∷ [])) ≡ Some BadHost
unfolding refusal_of trim_ows
two_hosts = refl

-- HTTP/1.0 needs no Host
old_version : head_refusal (record (head (codes "POST") (codes "/http-bind") (length_68 ∷ [])) { minor = 0 }) ≡ None
unfolding refusal_of trim_ows
old_version = refl

close_in_a_list : is_closing 1 (fields_of (post (field (codes "Connection") (codes "keep-alive, Close") ∷ []))) ≡ true
unfolding trim_ows
close_in_a_list = refl

keeps_alive : is_closing 1 (fields_of (post (field (codes "Connection") (codes "keep-alive") ∷ []))) ≡ false
unfolding trim_ows
keeps_alive = refl

refused_text : response_text 405 [] true ≡ codes "HTTP/1.1 405 Method Not Allowed\r\nContent-Type: text/xml; charset=utf-8\r\nContent-Length: 0\r\nAllow: POST\r\nConnection: close\r\n\r\n"
unfolding response_text response_with digits
refused_text = refl

answer_text : response_text 200 (codes "<body/>") false ≡ codes "HTTP/1.1 200 OK\r\nContent-Type: text/xml; charset=utf-8\r\nContent-Length: 7\r\n\r\n<body/>"
unfolding response_text response_with digits
answer_text = refl
