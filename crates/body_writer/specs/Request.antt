-- The text of a request.
use Rattle.std.specs.Prelude.{ℕ, List, ◌++◌, codes}
use Rattle.body_writer.specs.declared.request.RequestParts.{RequestParts}
use Rattle.body_writer.specs.RequestRows.{request_attributes}
use Rattle.body_writer.specs.Attribute.{closed_with}
use Rattle.body_writer.specs.Rows.{rows_text}

-- its attributes in their order, then its payloads
unfoldable pub request_text : RequestParts → List ℕ
request_text parts = codes "<body" ++ rows_text (request_attributes parts) ++ closed_with parts.payloads
