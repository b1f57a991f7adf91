use Rattle.std.proofs.Common.{◌≡◌, ◌∙◌, true, refl, sym, inl, inr}
use Rattle.fields_table.specs.Accepts.{accepts}
use Rattle.fields_values.specs.declared.form.Form.TheVariants as forms
use Rattle.fields_values.proofs.AppendLemmas.{given_appended, plain_appended}
use Rattle.fields_values.proofs.push.push_plain.Goals as goal

pub returns-in-Eui48 : goal.returns-in-Eui48
returns-in-Eui48 c =
    given_appended c.args.kind c.value_form.result forms.Eui48 c.args.more c.args.octets.now.items c.push_address.new.octets.items c.push_address.result
    c.in-Eui48.is c.value_form.ensures refl (λ part is. is) (λ octets is. (octets, refl, is)) c.push_address.ensures

pub returns-in-Eui64 : goal.returns-in-Eui64
returns-in-Eui64 c =
    given_appended c.args.kind c.value_form.result forms.Eui64 c.args.more c.args.octets.now.items c.push_address-in-Eui64.new.octets.items c.push_address-in-Eui64.result
    c.in-Eui64.is c.value_form.ensures refl (λ part is. is) (λ octets is. (octets, refl, is)) c.push_address-in-Eui64.ensures

pub returns-in-Locator64 : goal.returns-in-Locator64
returns-in-Locator64 c =
    given_appended c.args.kind c.value_form.result forms.Locator64 c.args.more c.args.octets.now.items c.push_address-in-Locator64.new.octets.items c.push_address-in-Locator64.result
    c.in-Locator64.is c.value_form.ensures refl (λ part is. is) (λ octets is. (octets, refl, is)) c.push_address-in-Locator64.ensures

pub returns-in-Location : goal.returns-in-Location
returns-in-Location c =
    given_appended c.args.kind c.value_form.result forms.Location c.args.more c.args.octets.now.items c.push_address-in-Location.new.octets.items c.push_address-in-Location.result
    c.in-Location.is c.value_form.ensures refl (λ part is. is) (λ octets is. (octets, refl, is)) c.push_address-in-Location.ensures

pub returns-else-not-accepts : goal.returns-else-not-accepts
returns-else-not-accepts c =
    let c_accepts : accepts c.args.kind c.args.more.now ≡ true = sym c.accepts.ensures ∙ c.if-not-accepts.false in
    let h0 = c.in-Strings.is in
    elim h0 [
      | inl is ↦ plain_appended c.args.kind c.value_form.result forms.Strings c.args.more c.args.octets.now.items c.push.new.octets.items
          c.push.result is c.value_form.ensures refl (λ part is. is) (λ octets is. (octets, refl, is)) (c_accepts, refl) c.push.ensures.ok
          c.push.ensures.err
      | inr h1 ↦
          elim h1 [
            | inl is ↦ plain_appended c.args.kind c.value_form.result forms.Types c.args.more c.args.octets.now.items c.push.new.octets.items
                c.push.result is c.value_form.ensures refl (λ part is. is) (λ octets is. (octets, refl, is)) (c_accepts, refl) c.push.ensures.ok
                c.push.ensures.err
            | inr h2 ↦
                elim h2 [
                  | inl is ↦ plain_appended c.args.kind c.value_form.result forms.Parameters c.args.more c.args.octets.now.items
                      c.push.new.octets.items c.push.result is c.value_form.ensures refl (λ part is. is) (λ octets is. (octets, refl, is))
                      (c_accepts, refl) c.push.ensures.ok c.push.ensures.err
                  | inr h3 ↦
                      elim h3 [
                        | inl is ↦ plain_appended c.args.kind c.value_form.result forms.Prefixes c.args.more c.args.octets.now.items c.push.new.octets.items
                            c.push.result is c.value_form.ensures refl (λ part is. is) (λ octets is. (octets, refl, is)) (c_accepts, refl) c.push.ensures.ok
                            c.push.ensures.err
                        | inr h4 ↦
                            elim h4 [
                              | inl is ↦ plain_appended c.args.kind c.value_form.result forms.Gateway c.args.more c.args.octets.now.items
                                  c.push.new.octets.items c.push.result is c.value_form.ensures refl (λ part is. is) (λ octets is. (octets, refl, is))
                                  (c_accepts, refl) c.push.ensures.ok c.push.ensures.err
                              | inr h5 ↦
                                  elim h5 [
                                    | inl is ↦ plain_appended c.args.kind c.value_form.result forms.Relay c.args.more c.args.octets.now.items
                                        c.push.new.octets.items c.push.result is c.value_form.ensures refl (λ part is. is) (λ octets is. (octets, refl, is))
                                        (c_accepts, refl) c.push.ensures.ok c.push.ensures.err
                                    | inr h6 ↦
                                        elim h6 [
                                          | inl is ↦ plain_appended c.args.kind c.value_form.result forms.Identity c.args.more c.args.octets.now.items
                                              c.push.new.octets.items c.push.result is c.value_form.ensures refl (λ part is. is) (λ octets is. (octets, refl, is))
                                              (c_accepts, refl) c.push.ensures.ok c.push.ensures.err
                                          | inr is ↦ plain_appended c.args.kind c.value_form.result forms.Rest c.args.more c.args.octets.now.items
                                              c.push.new.octets.items c.push.result is c.value_form.ensures refl (λ part is. is) (λ octets is. (octets, refl, is))
                                              (c_accepts, refl) c.push.ensures.ok c.push.ensures.err
                                        ]
                                  ]
                            ]
                      ]
                ]
          ]
    ]
