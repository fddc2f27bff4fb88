-- How the logic stores environments.
use Rattle.std.specs.Prelude.{ℕ, List, refl}
use Rattle.std.specs.Coded.{Coded, code_by, coded×, coded_ℕ, coded_list}
use Rattle.rhd_hash.specs.declared.mixer.Seeds.{Seeds}
use Rattle.rhd_hash.specs.contracts.mixer.Seeds as seeds
use Rattle.rhd_resolve.specs.declared.environs.EncapsulatedEnviron.{EncapsulatedEnviron}
use Rattle.rhd_resolve.specs.contracts.environs.EncapsulatedEnviron as environ
use Rattle.rhd_resolve.specs.Environs.{Envs}

abbrev pub envs_code : Coded Envs
envs_code =
    code_by (Seeds × ((ℕ × ℕ) × List EncapsulatedEnviron)) (coded× seeds.the_row.coded (coded× (coded× coded_ℕ coded_ℕ) (coded_list environ.the_row.coded)))
    (λ e. (e.seeds, ((e.natives, e.iterators), e.items))) (λ p. record { seeds = p.0; natives = p.1.0.0; iterators = p.1.0.1; items = p.1.1 }) (λ _. refl)
