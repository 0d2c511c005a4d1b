use Rattle.std.proofs.Common.{sym}
use Rattle.bosh_client.specs.Machine.{new_client}
use Rattle.bosh_client.proofs.RunLemmas.{client_is, grows_after, handed_after, new_is}
use Rattle.bosh_client.proofs.laws.payloads_are_handed_out_in_order.Goals as goal

pub returns : goal.returns
returns c = record {
  handed = λ setup calls some. sym (handed_after setup (new_client setup) calls (new_is setup some));
  within = λ setup calls some. (client_is setup calls some).within;
  grows = grows_after;
}
