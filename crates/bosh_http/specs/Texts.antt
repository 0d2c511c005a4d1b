-- The texts of a response and of a request, as they are written.
use Rattle.std.specs.Prelude.{ℕ, List, [], ◌++◌, Bool, length, codes, if◌then◌else◌, ◌==◌}
use Rattle.std.specs.Fmt.{decimal}
use Rattle.http.specs.StatusCode.{code_digits}

-- the phrase of a status that a manager answers (RFC 9110, section 15), and no phrase of any other
abbrev pub phrase_of : ℕ → List ℕ
phrase_of status =
    if status == 200 then codes "OK" else (
    if status == 400 then codes "Bad Request" else (
    if status == 404 then codes "Not Found" else (
    if status == 405 then codes "Method Not Allowed" else (
    if status == 411 then codes "Length Required" else (
    if status == 413 then codes "Content Too Large" else (
    if status == 415 then codes "Unsupported Media Type" else (
    if status == 431 then codes "Request Header Fields Too Large" else (
    if status == 501 then codes "Not Implemented" else (
    if status == 503 then codes "Service Unavailable" else
    [])))))))))

-- the methods that the path has, which 405 must name (RFC 9110, section 15.5.6)
abbrev pub allow_line : ℕ → List ℕ
allow_line status = if status == 405 then codes "Allow: POST\r\n" else []

-- the connection ends after this response (RFC 9112, section 9.6)
abbrev pub connection_line : Bool → List ℕ
connection_line closing = if closing then codes "Connection: close\r\n" else []

-- what the content is, and how many bytes it has (RFC 9112, section 6.2)
abbrev pub content_lines : List ℕ → List ℕ
content_lines body = codes "Content-Type: text/xml; charset=utf-8\r\n" ++ codes "Content-Length: " ++ decimal (length body) ++ codes "\r\n"

-- a response: its status line, its fields, an empty line, the content (RFC 9112, section 4)
unfoldable pub response_with : List ℕ → List ℕ → List ℕ → List ℕ → List ℕ
response_with code phrase lines body =
    codes "HTTP/1.1 " ++ code ++ codes " " ++ phrase ++ codes "\r\n" ++ content_lines body ++ lines ++ codes "\r\n" ++ body

-- the response with a status
unfoldable pub response_text : ℕ → List ℕ → Bool → List ℕ
response_text status body closing = response_with (code_digits status) (phrase_of status) (allow_line status ++ connection_line closing) body

-- a request: its request line, its fields, an empty line, the content (RFC 9112, section 3)
unfoldable pub post_text : List ℕ → List ℕ
post_text body =
    codes "POST /http-bind HTTP/1.1\r\n" ++ codes "Host: 127.0.0.1\r\n" ++ content_lines body ++ codes "\r\n" ++ body
