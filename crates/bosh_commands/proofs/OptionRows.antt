-- What some words of `serve` ask for.
use Rattle.std.proofs.Common.{◌≡◌, ◌∷◌, [], None, Some, codes, false, refl, true}
use Rattle.clap.specs.Words.{fault_of}
use Rattle.clap.specs.declared.error.kind.ErrorKind.TheVariants.{ArgumentConflict, DisplayHelp, DisplayVersion, MissingRequiredArgument, UnknownArgument}
use Rattle.clap.proofs.OnLiterals.{clap_on_literals}
use Rattle.bosh_commands.specs.Options.{options_in, serve_app}
use Rattle.bosh_commands.specs.Site.{are_different, is_test_host, usual_site}

pub help : fault_of serve_app (codes "serve" ∷ codes "--help" ∷ []) ≡ DisplayHelp ∷ []
unfolding clap_on_literals
help = refl

help_beside_options : fault_of serve_app (codes "serve" ∷ codes "--port" ∷ codes "5280" ∷ codes "-h" ∷ []) ≡ DisplayHelp ∷ []
unfolding clap_on_literals
help_beside_options = refl

version : fault_of serve_app (codes "serve" ∷ codes "--version" ∷ []) ≡ DisplayVersion ∷ []
unfolding clap_on_literals
version = refl

no_port : fault_of serve_app (codes "serve" ∷ []) ≡ MissingRequiredArgument ∷ []
unfolding clap_on_literals
no_port = refl

no_option : fault_of serve_app (codes "serve" ∷ codes "--host" ∷ codes "h" ∷ []) ≡ UnknownArgument ∷ []
unfolding clap_on_literals
no_option = refl

usual : options_in (codes "serve" ∷ codes "--port" ∷ codes "5280" ∷ []) ≡ Some (record { port = 5280; until_eof = false; plan = record { workers = 8; connections = 0; limits = record { live = 256; openings = 1048576; journal = 16777216; gap_waits = 1 }; «open» = None; incoming = 67108864 }; site = usual_site 5222; trace = None; log = false; name = None; journal = None })
unfolding clap_on_literals options_in
usual = refl

all_named : options_in (codes "serve" ∷ codes "--connections=2" ∷ codes "--port=1" ∷ codes "--workers" ∷ codes "64" ∷ []) ≡ Some (record { port = 1; until_eof = false; plan = record { workers = 64; connections = 2; limits = record { live = 256; openings = 1048576; journal = 16777216; gap_waits = 1 }; «open» = None; incoming = 67108864 }; site = usual_site 5222; trace = None; log = false; name = None; journal = None })
unfolding clap_on_literals options_in
all_named = refl

limit_named : options_in (codes "serve" ∷ codes "--port=1" ∷ codes "--journal-limit" ∷ codes "65536" ∷ []) ≡ Some (record { port = 1; until_eof = false; plan = record { workers = 8; connections = 0; limits = record { live = 256; openings = 1048576; journal = 65536; gap_waits = 1 }; «open» = None; incoming = 67108864 }; site = usual_site 5222; trace = None; log = false; name = None; journal = None })
unfolding clap_on_literals options_in
limit_named = refl

with_input : options_in (codes "serve" ∷ codes "--until-eof" ∷ codes "--port=1" ∷ []) ≡ Some (record { port = 1; until_eof = true; plan = record { workers = 8; connections = 0; limits = record { live = 256; openings = 1048576; journal = 16777216; gap_waits = 1 }; «open» = None; incoming = 67108864 }; site = usual_site 5222; trace = None; log = false; name = None; journal = None })
unfolding clap_on_literals options_in
with_input = refl

limits_named : options_in (codes "serve" ∷ codes "--port=1" ∷ codes "--sessions=65536" ∷ codes "--openings=4294967295" ∷ codes "--open=1" ∷ codes "--incoming=1048576" ∷ codes "--trace=t" ∷ [])
    ≡ Some (record { port = 1; until_eof = false; plan = record { workers = 8; connections = 0; limits = record { live = 65536; openings = 4294967295; journal = 16777216; gap_waits = 1 }; «open» = Some 1; incoming = 1048576 }; site = usual_site 5222; trace = Some (codes "t"); log = false; name = None; journal = None })
unfolding clap_on_literals options_in
limits_named = refl

gap_waits_named : options_in (codes "serve" ∷ codes "--port=1" ∷ codes "--gap-waits=10" ∷ [])
    ≡ Some (record { port = 1; until_eof = false; plan = record { workers = 8; connections = 0; limits = record { live = 256; openings = 1048576; journal = 16777216; gap_waits = 10 }; «open» = None; incoming = 67108864 }; site = usual_site 5222; trace = None; log = false; name = None; journal = None })
unfolding clap_on_literals options_in
gap_waits_named = refl

gap_waits_11 : options_in (codes "serve" ∷ codes "--port=1" ∷ codes "--gap-waits=11" ∷ []) ≡ None
unfolding clap_on_literals options_in
gap_waits_11 = refl

no_session : options_in (codes "serve" ∷ codes "--port=1" ∷ codes "--sessions=0" ∷ []) ≡ None
unfolding clap_on_literals options_in
no_session = refl

more_openings : options_in (codes "serve" ∷ codes "--port=1" ∷ codes "--openings=4294967296" ∷ []) ≡ None
unfolding clap_on_literals options_in
more_openings = refl

nothing_open : options_in (codes "serve" ∷ codes "--port=1" ∷ codes "--open=0" ∷ []) ≡ None
unfolding clap_on_literals options_in
nothing_open = refl

less_than_a_body : options_in (codes "serve" ∷ codes "--port=1" ∷ codes "--incoming=1048575" ∷ []) ≡ None
unfolding clap_on_literals options_in
less_than_a_body = refl

domain_twice : options_in (codes "serve" ∷ codes "--port=1" ∷ codes "--xmpp=a.org" ∷ codes "--xmpp=a.org" ∷ []) ≡ None
unfolding clap_on_literals options_in is_test_host are_different
domain_twice = refl

test_host_as_domain : options_in (codes "serve" ∷ codes "--port=1" ∷ codes "--xmpp=room.localhost" ∷ []) ≡ None
unfolding clap_on_literals options_in is_test_host are_different
test_host_as_domain = refl

nine_domains : options_in (codes "serve" ∷ codes "--port=1" ∷ codes "--xmpp=a" ∷ codes "--xmpp=b" ∷ codes "--xmpp=c" ∷ codes "--xmpp=d" ∷ codes "--xmpp=e" ∷ codes "--xmpp=f" ∷ codes "--xmpp=g" ∷ codes "--xmpp=h" ∷ codes "--xmpp=i" ∷ []) ≡ None
unfolding clap_on_literals options_in is_test_host are_different
nine_domains = refl

xmpp_port_0 : options_in (codes "serve" ∷ codes "--port=1" ∷ codes "--xmpp-port=0" ∷ []) ≡ None
unfolding clap_on_literals options_in
xmpp_port_0 = refl

with_input_twice : fault_of serve_app (codes "serve" ∷ codes "--until-eof" ∷ codes "--port=1" ∷ codes "--until-eof" ∷ []) ≡ ArgumentConflict ∷ []
unfolding clap_on_literals
with_input_twice = refl

limit_too_low : options_in (codes "serve" ∷ codes "--port=1" ∷ codes "--journal-limit" ∷ codes "65535" ∷ []) ≡ None
unfolding clap_on_literals options_in
limit_too_low = refl

port_0 : options_in (codes "serve" ∷ codes "--port" ∷ codes "0" ∷ []) ≡ None
unfolding clap_on_literals options_in
port_0 = refl

telling_named : options_in (codes "serve" ∷ codes "--port=1" ∷ codes "--log" ∷ codes "--name=node-12" ∷ []) ≡ Some (record { port = 1; until_eof = false; plan = record { workers = 8; connections = 0; limits = record { live = 256; openings = 1048576; journal = 16777216; gap_waits = 1 }; «open» = None; incoming = 67108864 }; site = usual_site 5222; trace = None; log = true; name = Some (codes "node-12"); journal = None })
unfolding clap_on_literals options_in
telling_named = refl

journal_named : options_in (codes "serve" ∷ codes "--port=1" ∷ codes "--journal" ∷ codes "sessions.journal" ∷ []) ≡ Some (record { port = 1; until_eof = false; plan = record { workers = 8; connections = 0; limits = record { live = 256; openings = 1048576; journal = 16777216; gap_waits = 1 }; «open» = None; incoming = 67108864 }; site = usual_site 5222; trace = None; log = false; name = None; journal = Some (codes "sessions.journal") })
unfolding clap_on_literals options_in
journal_named = refl

name_of_fourteen : options_in (codes "serve" ∷ codes "--port=1" ∷ codes "--name" ∷ codes "a-------------" ∷ []) ≡ Some (record { port = 1; until_eof = false; plan = record { workers = 8; connections = 0; limits = record { live = 256; openings = 1048576; journal = 16777216; gap_waits = 1 }; «open» = None; incoming = 67108864 }; site = usual_site 5222; trace = None; log = false; name = Some (codes "a-------------"); journal = None })
unfolding clap_on_literals options_in
name_of_fourteen = refl

name_of_fifteen : options_in (codes "serve" ∷ codes "--port=1" ∷ codes "--name=abcdefghijklmno" ∷ []) ≡ None
unfolding clap_on_literals options_in
name_of_fifteen = refl

name_of_none : options_in (codes "serve" ∷ codes "--port=1" ∷ codes "--name=" ∷ []) ≡ None
unfolding clap_on_literals options_in
name_of_none = refl

name_with_a_digit_first : options_in (codes "serve" ∷ codes "--port=1" ∷ codes "--name=1a" ∷ []) ≡ None
unfolding clap_on_literals options_in
name_with_a_digit_first = refl

name_with_a_dot : options_in (codes "serve" ∷ codes "--port=1" ∷ codes "--name=a.b" ∷ []) ≡ None
unfolding clap_on_literals options_in
name_with_a_dot = refl

log_twice : fault_of serve_app (codes "serve" ∷ codes "--log" ∷ codes "--port=1" ∷ codes "--log" ∷ []) ≡ ArgumentConflict ∷ []
unfolding clap_on_literals
log_twice = refl
