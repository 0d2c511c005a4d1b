use Rattle.std.proofs.Common.{◌≡◌, drop, length, nat_le, sum_by}
use Rattle.bosh_types.specs.Limits.{longest_stanza}
use Rattle.session_attrs.proofs.serving.fits.Given as goal

-- all fit exactly where those that are left fit into the room that is left
abbrev pub invariant-loop-text : goal.invariant-loop-text
invariant-loop-text l =
    nat_le (sum_by (λ text. length text) l.texts) longest_stanza ≡ nat_le (sum_by (λ text. length text) (drop l.text-index l.texts)) l.room
