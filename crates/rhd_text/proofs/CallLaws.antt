-- One call line by itself: what is read is what is written.
use Rattle.std.proofs.Common.{◌≡◌, ℕ, List, Option, Some, None, refl, sym, ◌∙◌}
use Rattle.rhd_func.specs.declared.request.CallRequest.{CallRequest}
use Rattle.rhd_call.specs.declared.command.Command.{Command}
use Rattle.rhd_call.specs.declared.command.Command.TheVariants as commands
use Rattle.rhd_plan.specs.declared.part.Part.{Part}
use Rattle.rhd_plan.specs.declared.part.Part.TheVariants as parts
use Rattle.rhd_text.specs.Grammar.{IsCallOrNone}
use Rattle.rhd_text.specs.ReadRows.{line_of, request_in}
use Rattle.rhd_text.proofs.TableLaws.{line_sound, line_complete}

-- where something else is read, no call line is written
other_read : (n : ℕ) (o : Option (Option Part)) (bytes : List ℕ) → line_of n bytes ≡ o → ((r : CallRequest) → o ≡ Some (Some (parts.Command (commands.Call r))) → ⊥) → IsCallOrNone n bytes None
other_read n o bytes e other = λ r w. other r (sym e ∙ line_complete n (Some (parts.Command (commands.Call r))) bytes w)

pub no_line_read : (n : ℕ) (bytes : List ℕ) → line_of n bytes ≡ None → IsCallOrNone n bytes None
no_line_read n bytes e = other_read n None bytes e (λ r f. cc)

pub line_read : (n : ℕ) (l : Option Part) (bytes : List ℕ) → line_of n bytes ≡ Some l → IsCallOrNone n bytes (request_in l)
line_read n None bytes e = other_read n (Some None) bytes e (λ r f. cc)
line_read n (Some (parts.Seeds seeds)) bytes e = other_read n (Some (Some (parts.Seeds seeds))) bytes e (λ r f. cc)
line_read n (Some (parts.Limits limits)) bytes e = other_read n (Some (Some (parts.Limits limits))) bytes e (λ r f. cc)
line_read n (Some (parts.Printer p)) bytes e = other_read n (Some (Some (parts.Printer p))) bytes e (λ r f. cc)
line_read n (Some (parts.Builtin op left right id)) bytes e = other_read n (Some (Some (parts.Builtin op left right id))) bytes e (λ r f. cc)
line_read n (Some (parts.Host name answer)) bytes e = other_read n (Some (Some (parts.Host name answer))) bytes e (λ r f. cc)
line_read n (Some (parts.File path text)) bytes e = other_read n (Some (Some (parts.File path text))) bytes e (λ r f. cc)
line_read n (Some parts.Manifest) bytes e = other_read n (Some (Some parts.Manifest)) bytes e (λ r f. cc)
line_read n (Some (parts.Entry name id namespace)) bytes e = other_read n (Some (Some (parts.Entry name id namespace))) bytes e (λ r f. cc)
line_read n (Some (parts.Sub name sub)) bytes e = other_read n (Some (Some (parts.Sub name sub))) bytes e (λ r f. cc)
line_read n (Some (parts.ManifestVar name value)) bytes e = other_read n (Some (Some (parts.ManifestVar name value))) bytes e (λ r f. cc)
line_read n (Some (parts.ManifestType shown text)) bytes e = other_read n (Some (Some (parts.ManifestType shown text))) bytes e (λ r f. cc)
line_read n (Some parts.Body) bytes e = other_read n (Some (Some parts.Body)) bytes e (λ r f. cc)
line_read n (Some (parts.Do call)) bytes e = other_read n (Some (Some (parts.Do call))) bytes e (λ r f. cc)
line_read n (Some (parts.End end)) bytes e = other_read n (Some (Some (parts.End end))) bytes e (λ r f. cc)
line_read n (Some (parts.Command (commands.Call r))) bytes e = line_sound n (Some (parts.Command (commands.Call r))) bytes e
line_read n (Some (parts.Command commands.NewModule)) bytes e = other_read n (Some (Some (parts.Command commands.NewModule))) bytes e (λ r f. cc)
line_read n (Some (parts.Command (commands.Script m def))) bytes e = other_read n (Some (Some (parts.Command (commands.Script m def)))) bytes e (λ r f. cc)
line_read n (Some (parts.Command (commands.RegisterFn f id))) bytes e = other_read n (Some (Some (parts.Command (commands.RegisterFn f id)))) bytes e (λ r f. cc)
line_read n (Some (parts.Command (commands.PushLib m))) bytes e = other_read n (Some (Some (parts.Command (commands.PushLib m)))) bytes e (λ r f. cc)
line_read n (Some (parts.Command commands.PopLib)) bytes e = other_read n (Some (Some (parts.Command commands.PopLib))) bytes e (λ r f. cc)
line_read n (Some (parts.Command (commands.SetId m text))) bytes e = other_read n (Some (Some (parts.Command (commands.SetId m text)))) bytes e (λ r f. cc)
line_read n (Some (parts.Command (commands.SetDoc m text))) bytes e = other_read n (Some (Some (parts.Command (commands.SetDoc m text)))) bytes e (λ r f. cc)
line_read n (Some (parts.Command (commands.SetVar m g t))) bytes e = other_read n (Some (Some (parts.Command (commands.SetVar m g t)))) bytes e (λ r f. cc)
line_read n (Some (parts.Command (commands.SetType m shown text))) bytes e = other_read n (Some (Some (parts.Command (commands.SetType m shown text)))) bytes e (λ r f. cc)
line_read n (Some (parts.Command (commands.Native m reg id))) bytes e = other_read n (Some (Some (parts.Command (commands.Native m reg id)))) bytes e (λ r f. cc)
line_read n (Some (parts.Command (commands.RawNative m g space types func))) bytes e = other_read n (Some (Some (parts.Command (commands.RawNative m g space types func)))) bytes e (λ r f. cc)
line_read n (Some (parts.Command (commands.SubModule m g sub))) bytes e = other_read n (Some (Some (parts.Command (commands.SubModule m g sub)))) bytes e (λ r f. cc)
line_read n (Some (parts.Command (commands.Clear m))) bytes e = other_read n (Some (Some (parts.Command (commands.Clear m)))) bytes e (λ r f. cc)
line_read n (Some (parts.Command (commands.RegisterRaw g types id))) bytes e = other_read n (Some (Some (parts.Command (commands.RegisterRaw g types id)))) bytes e (λ r f. cc)
line_read n (Some (parts.Command (commands.RegisterType kind text))) bytes e = other_read n (Some (Some (parts.Command (commands.RegisterType kind text)))) bytes e (λ r f. cc)
line_read n (Some (parts.Command (commands.Count m))) bytes e = other_read n (Some (Some (parts.Command (commands.Count m)))) bytes e (λ r f. cc)
line_read n (Some (parts.Command (commands.Contains m key))) bytes e = other_read n (Some (Some (parts.Command (commands.Contains m key)))) bytes e (λ r f. cc)
line_read n (Some (parts.Command (commands.Index m))) bytes e = other_read n (Some (Some (parts.Command (commands.Index m)))) bytes e (λ r f. cc)
line_read n (Some (parts.Command (commands.GlobalModule m))) bytes e = other_read n (Some (Some (parts.Command (commands.GlobalModule m)))) bytes e (λ r f. cc)
line_read n (Some (parts.Command (commands.StaticModule g m))) bytes e = other_read n (Some (Some (parts.Command (commands.StaticModule g m)))) bytes e (λ r f. cc)
line_read n (Some (parts.Command (commands.PushImport g m))) bytes e = other_read n (Some (Some (parts.Command (commands.PushImport g m)))) bytes e (λ r f. cc)
line_read n (Some (parts.Command (commands.ImportPath g path))) bytes e = other_read n (Some (Some (parts.Command (commands.ImportPath g path)))) bytes e (λ r f. cc)
line_read n (Some (parts.Command commands.PopImport)) bytes e = other_read n (Some (Some (parts.Command commands.PopImport))) bytes e (λ r f. cc)
line_read n (Some (parts.Command (commands.SetSource source))) bytes e = other_read n (Some (Some (parts.Command (commands.SetSource source)))) bytes e (λ r f. cc)
line_read n (Some (parts.Command (commands.SetTag tag))) bytes e = other_read n (Some (Some (parts.Command (commands.SetTag tag)))) bytes e (λ r f. cc)
line_read n (Some (parts.Command (commands.FromManifest l))) bytes e = other_read n (Some (Some (parts.Command (commands.FromManifest l)))) bytes e (λ r f. cc)
line_read n (Some (parts.Command (commands.CombineManifest m l))) bytes e = other_read n (Some (Some (parts.Command (commands.CombineManifest m l)))) bytes e (λ r f. cc)
line_read n (Some (parts.Command (commands.RegisterLazy m))) bytes e = other_read n (Some (Some (parts.Command (commands.RegisterLazy m)))) bytes e (λ r f. cc)
line_read n (Some (parts.Command (commands.Combine m other))) bytes e = other_read n (Some (Some (parts.Command (commands.Combine m other)))) bytes e (λ r f. cc)
line_read n (Some (parts.Command (commands.CombineFlatten m other))) bytes e = other_read n (Some (Some (parts.Command (commands.CombineFlatten m other)))) bytes e (λ r f. cc)
line_read n (Some (parts.Command (commands.Fill m other))) bytes e = other_read n (Some (Some (parts.Command (commands.Fill m other)))) bytes e (λ r f. cc)
line_read n (Some (parts.Command (commands.Merge m other))) bytes e = other_read n (Some (Some (parts.Command (commands.Merge m other)))) bytes e (λ r f. cc)

-- a command that is no call makes no request
pub not_requested : (command : Command) → ((r : CallRequest) → command ≡ commands.Call r → ⊥) → None ≡ request_in (Some (parts.Command command))
not_requested (commands.Call r) no_call = absurd (no_call r refl)
not_requested commands.NewModule no_call = refl
not_requested (commands.Script m def) no_call = refl
not_requested (commands.RegisterFn f id) no_call = refl
not_requested (commands.PushLib m) no_call = refl
not_requested commands.PopLib no_call = refl
not_requested (commands.SetId m text) no_call = refl
not_requested (commands.SetDoc m text) no_call = refl
not_requested (commands.SetVar m g t) no_call = refl
not_requested (commands.SetType m shown text) no_call = refl
not_requested (commands.Native m reg id) no_call = refl
not_requested (commands.RawNative m g space types func) no_call = refl
not_requested (commands.SubModule m g sub) no_call = refl
not_requested (commands.Clear m) no_call = refl
not_requested (commands.RegisterRaw g types id) no_call = refl
not_requested (commands.RegisterType kind text) no_call = refl
not_requested (commands.Count m) no_call = refl
not_requested (commands.Contains m key) no_call = refl
not_requested (commands.Index m) no_call = refl
not_requested (commands.GlobalModule m) no_call = refl
not_requested (commands.StaticModule g m) no_call = refl
not_requested (commands.PushImport g m) no_call = refl
not_requested (commands.ImportPath g path) no_call = refl
not_requested commands.PopImport no_call = refl
not_requested (commands.SetSource source) no_call = refl
not_requested (commands.SetTag tag) no_call = refl
not_requested (commands.FromManifest l) no_call = refl
not_requested (commands.CombineManifest m l) no_call = refl
not_requested (commands.RegisterLazy m) no_call = refl
not_requested (commands.Combine m other) no_call = refl
not_requested (commands.CombineFlatten m other) no_call = refl
not_requested (commands.Fill m other) no_call = refl
not_requested (commands.Merge m other) no_call = refl
