mod CaseLaws
mod PlanLaws
